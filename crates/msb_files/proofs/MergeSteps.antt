-- A merge, one entry on.
use Rattle.std.proofs.Common.{◌≡◌, ℕ, ◌+◌, ◌-◌, ◌<◌, length, drop, ◌∷◌, Some, ap, ◌∙◌, sym, arith}
use Rattle.std.specs.List.{slice_get}
use Rattle.std.proofs.lemmas.List.{drop_more}
use Rattle.std.proofs.lemmas.Option.{get_or_from_slice_get}
use Rattle.result_cache.specs.Journal.{Journal, Entry, add, merge}

at_next : (other : Journal) (k m : ℕ) (e : Entry) → k < length other → slice_get other k ≡ Some e
    → m ≡ k + 1 → drop k other ≡ e ∷ drop m other
at_next other k m e w is next = drop_more other k e w
    ∙ (ap (λ x. x ∷ drop (k + 1) other) (get_or_from_slice_get other k e e is)
    ∙ ap (λ j. e ∷ drop j other) (sym next))

pub merge_more : (journal other : Journal) (n at : ℕ) (e : Entry) → n ≡ length other → at < n
    → slice_get other (n - 1 - at) ≡ Some e → merge journal (drop (n - (at + 1)) other)
    ≡ add (merge journal (drop (n - at) other)) e
merge_more journal other n at e all w is =
    let here : n - (at + 1) ≡ n - 1 - at = omega arith in
    ap (merge journal) (ap (λ k. drop k other) here
    ∙ at_next other (n - 1 - at) (n - at) e (omega arith) is (omega arith))
