-- Two lists of one length, taken side by side.
use Rattle.std.proofs.Common.{◌≡◌, ℕ, ◌<◌, ◌≤◌, List, length, get_or, min, sym, ap, ◌∙◌, arith}
use Rattle.std.specs.List.{zip}
use Rattle.std.proofs.lemmas.Slice.Zip.{get_or-zip, length-zip}

same_min : (n : ℕ) → min n n ≡ n
same_min n = omega arith

pub zip_length : {A B : Type 0} (xs : List A) (ys : List B) → length ys ≡ length xs
    → length (zip xs ys) ≡ length xs
zip_length xs ys same = length-zip xs ys ∙ ap (min (length xs)) same ∙ same_min (length xs)

pub zip_within : {A B : Type 0} (xs : List A) (ys : List B) (i : ℕ) → length ys ≡ length xs
    → i < length xs → i < length (zip xs ys)
zip_within xs ys i same within = rw (zip_length xs ys same) within

pub zip_ends : {A B : Type 0} (xs : List A) (ys : List B) (i : ℕ) → length ys ≡ length xs
    → length xs ≤ i → length (zip xs ys) ≤ i
zip_ends xs ys i same end = rw (zip_length xs ys same) end

pub zip_at : {A B : Type 0} (xs : List A) (ys : List B) (i : ℕ) (x : A) (y : B)
    → length ys ≡ length xs → i < length xs → x ≡ get_or xs i x → y ≡ get_or ys i y
    → (x, y) ≡ get_or (zip xs ys) i (x, y)
zip_at xs ys i x y same within first second = (λ k. (first k, second k))
    ∙ sym (get_or-zip xs ys i (x, y) within (rw same within))
