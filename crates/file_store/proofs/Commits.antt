-- A list of acts is done.
use Rattle.std.proofs.Common.{
  ◌≡◌,
  ◌≢◌,
  ℕ,
  ◌+◌,
  ◌<◌,
  ◌≤◌,
  List,
  [],
  ◌∷◌,
  ◌++◌,
  length,
  take,
  get_or,
  Bool,
  true,
  false,
  cond,
  Option,
  Some,
  None,
  IfSome,
  IsSomeAnd,
  MatchOption,
  option_map,
  refl,
  sym,
  ap,
  ◌∙◌,
  subst,
}
use Rattle.std.specs.Option.{option_or}
use Rattle.std.specs.Str.{bytes_eq}
use Rattle.std.proofs.lemmas.Slice.Eq.{bytes_eq-Decides}
use Rattle.std.proofs.lemmas.List.{take_more}
use Rattle.msb_values.specs.Acts.{act_path, act_bytes}
use Rattle.msb_values.specs.declared.act.Act.{Act}
use Rattle.msb_values.specs.declared.act.Act.TheVariants.{Write, Remove}
use Rattle.file_store.specs.Files.{file_at}
use Rattle.file_store.specs.Writes.{KeepsOthers}
use Rattle.file_store.specs.Commits.{IsDone, AreDone, HasContents, bytes_there, last_bytes}
use Rattle.file_store.specs.declared.tree.File.{File}
use Rattle.file_store.proofs.Loaded.{take_past}

AreDone-push : (acts : List Act) (act : Act) (before between after : List File)
    → AreDone acts before between → IsDone act between after
    → AreDone (acts ++ act ∷ []) before after
AreDone-push [] act before between after h d = (after, subst (λ fs. IsDone act fs after) h d, refl)
AreDone-push (a ∷ acts) act before between after h d =
    (h.0, h.1, AreDone-push acts act h.0 between after h.2 d)

AreDone-more : (list : List Act) (i : ℕ) (act : Act) (before between after : List File)
    → i < length list → act ≡ get_or list i act → AreDone (take i list) before between
    → IsDone act between after → AreDone (take (i + 1) list) before after
AreDone-more list i act before between after h is first d =
    subst (λ acts. AreDone acts before after)
    (ap (λ a. take i list ++ a ∷ []) is ∙ sym (take_more list i act h))
    (AreDone-push (take i list) act before between after first d)

-- the same, where the store may tell its files
pub told_more : (list : List Act) (i : ℕ) (act : Act) (before between after : Option (List File))
    → i < length list → act ≡ get_or list i act
    → IfSome before (λ t. IsSomeAnd between (AreDone (take i list) t))
    → IfSome between (λ t. IsSomeAnd after (IsDone act t))
    → IfSome before (λ t. IsSomeAnd after (AreDone (take (i + 1) list) t))
told_more list i act None between after h is first d = tt
told_more list i act (Some before) None after h is first d = absurd first
told_more list i act (Some before) (Some between) None h is first d = absurd d
told_more list i act (Some before) (Some between) (Some after) h is first d =
    AreDone-more list i act before between after h is first d

apart : (p q : List ℕ) → bytes_eq p q ≡ false → q ≢ p
apart p q h e = let b = (bytes_eq-Decides p q).1 (sym e) in cc

has_bytes : (bytes : List ℕ) (N : File → Type 0) (o : Option File)
    → IsSomeAnd o (λ f. (f.bytes ≡ bytes) × N f) → option_map (λ f. f.bytes) o ≡ Some bytes
has_bytes bytes N None h = absurd h
has_bytes bytes N (Some f) h = ap Some h.0

-- an act leaves its bytes at its path, or no file
left_there : (act : Act) (before after : List File) → IsDone act before after
    → bytes_there (act_path act) after ≡ act_bytes act
left_there (Write put) before after d = has_bytes put.bytes _ (file_at put.path after) d.here
left_there (Remove path) before after d = ap (option_map (λ f. f.bytes)) d.here

others_kept : (act : Act) (before after : List File) → IsDone act before after
    → KeepsOthers (act_path act) before after
others_kept (Write put) before after d = d.others
others_kept (Remove path) before after d = d.others

contents_first : (act : Act) (q : List ℕ) (before between after : List File)
    (later : Option (Option (List ℕ))) (b : Bool) → bytes_eq (act_path act) q ≡ b
    → IsDone act before between
    → MatchOption later (file_at q after ≡ file_at q between) (λ left. bytes_there q after ≡ left)
    → MatchOption (option_or later (cond b (Some (act_bytes act)) None))
    (file_at q after ≡ file_at q before) (λ left. bytes_there q after ≡ left)
contents_first act q before between after (Some left) b e d h = h
contents_first act q before between after None true e d h =
    let same = (bytes_eq-Decides (act_path act) q).0 e in
    ap (option_map (λ f. f.bytes)) h ∙ ap (λ x. bytes_there x between) (sym same)
    ∙ left_there act before between d
contents_first act q before between after None false e d h =
    h ∙ others_kept act before between d q (apart (act_path act) q e)

-- what is done in order is there at the end
pub AreDone-contents : (list : List Act) (before after : List File) → AreDone list before after
    → HasContents list before after
AreDone-contents [] before after h q = ap (file_at q) h
AreDone-contents (act ∷ acts) before after h q =
    contents_first act q before h.0 after (last_bytes q acts) (bytes_eq (act_path act) q) refl h.1
    (AreDone-contents acts h.0 after h.2 q)

-- the same at the end of a list, where the store may tell its files
pub told_contents : (list items : List Act) (i : ℕ) (before after : Option (List File))
    → items ≡ list → length items ≤ i
    → IfSome before (λ t. IsSomeAnd after (AreDone (take i items) t))
    → IfSome before (λ t. IsSomeAnd after (HasContents list t))
told_contents list items i None after is h d = tt
told_contents list items i (Some before) None is h d = absurd d
told_contents list items i (Some before) (Some after) is h d =
    AreDone-contents list before after
    (subst (λ acts. AreDone acts before after) (take_past items i h ∙ is) d)
