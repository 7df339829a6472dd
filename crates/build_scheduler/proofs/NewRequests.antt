-- The requests that a body calls are new, and ready.
use Rattle.std.proofs.Common.{
  ◌≡◌,
  ◌<◌,
  ◌+◌,
  inl,
  inr,
  ℕ,
  zero,
  suc,
  List,
  [],
  ◌∷◌,
  ◌++◌,
  length,
  take,
  get_or,
  refl,
  sym,
  subst,
  arith,
}
use Rattle.std.proofs.lemmas.List.{take_more}
use Rattle.result_cache.specs.declared.request.RequestKey.{RequestKey}
use Rattle.result_cache.specs.Lists.{In}
use Rattle.build_meaning.specs.Lists.{Paired}
use Rattle.build_meaning.proofs.PairedLists.{Paired-append}
use Rattle.build_scheduler.specs.declared.walker.Ask.{Ask}
use Rattle.build_scheduler.specs.Children.{AreAsked}
use Rattle.build_scheduler.specs.Position.{IsCall}

pub in-get : {X : Type 0} (xs : List X) (i : ℕ) (d : X) → i < length xs → In (get_or xs i d) xs
in-get [] i d l = absurd (omega arith)
in-get (x ∷ xs) zero d l = inl refl
in-get (x ∷ xs) (suc i) d l = inr (in-get xs i d (omega arith))

-- a key of the calls that are asked for
pub asked-call : (calls : List RequestKey) (ask : Ask) (key : RequestKey) (i : ℕ)
    → AreAsked calls ask → i < length calls → key ≡ get_or calls i key → IsCall key ask
asked-call calls ask key i a l e = subst (IsCall key) (sym a)
    (subst (λ k. In k calls) (sym e) (in-get calls i key l))

-- one more entry in step
pub paired-more : {X Y : Type 0} (S : X → Y → Type 0) (xs after : List X) (ys : List Y) (i : ℕ)
    (x : X) (y : Y) → i < length ys → y ≡ get_or ys i y → S x y → after ≡ xs ++ x ∷ []
    → Paired S xs (take i ys) → Paired S after (take (i + 1) ys)
paired-more S xs after ys i x y l e s a h =
    subst (λ zs. Paired S zs (take (i + 1) ys)) (sym a)
    (subst (Paired S (xs ++ x ∷ [])) (sym (take_more ys i y l))
    (Paired-append S xs (take i ys) (x ∷ []) (get_or ys i y ∷ []) h (subst (S x) e s, tt)))
