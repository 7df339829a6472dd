-- What a journal has for a path, and which entries it has, by its parts.
use Rattle.std.proofs.Common.{
  ◌≡◌,
  ℕ,
  zero,
  suc,
  ◌+◌,
  ◌<◌,
  List,
  [],
  ◌∷◌,
  ◌++◌,
  length,
  take,
  get_or,
  Bool,
  true,
  false,
  ◌||◌,
  Option,
  Some,
  option_map,
  cond,
  refl,
  ap,
  ◌∙◌,
  sym,
  arith,
  add-one,
}
use Rattle.std.specs.List.{find, list_any}
use Rattle.std.specs.Option.{option_or, option_to_list}
use Rattle.std.specs.Str.{bytes_eq}
use Rattle.std.proofs.Math.Bool.{or_assoc}
use Rattle.std.proofs.lemmas.List.Folds.{find-append}
use Rattle.msb_values.specs.Acts.{act_path, act_bytes}
use Rattle.msb_values.specs.declared.act.Act.{Act}
use Rattle.result_cache.specs.Journal.{
  Journal,
  Entry,
  acted,
  ended,
  Mark,
  mark,
  same_mark,
  has,
  content,
}
use Rattle.result_cache.specs.Lists.{this_or}
use Rattle.msb_files.specs.Indices.{has_path, last_act}
use Rattle.msb_files.specs.Seen.{act_in}
use Rattle.msb_files.specs.Views.{acts_of}

-- ---- the content of a path is what the first act on it left, the newest

this_first : (b : Bool) (older : Option (Option (List ℕ))) (first : Option Act) (act : Act) →
    older ≡ option_map act_bytes first →
    this_or b older (act_bytes act) ≡ option_map act_bytes (cond b (Some act) first)
this_first true older first act e = refl
this_first false older first act e = e

pub content-is : (journal : Journal) (path : List ℕ) →
    content journal path ≡ option_map act_bytes (last_act journal path)
content-is [] path = refl
content-is (acted run place act ∷ journal) path =
    this_first (bytes_eq (act_path act) path) (content journal path) (last_act journal path) act
    (content-is journal path)
content-is (ended run made ∷ journal) path = content-is journal path

-- ---- two parts

this_or-append : (b : Bool) (x y z : Option (Option (List ℕ))) (this : Option (List ℕ)) →
    z ≡ option_or x y → this_or b z this ≡ option_or (this_or b x this) y
this_or-append true x y z this e = refl
this_or-append false x y z this e = e

pub content-append : (newer older : Journal) (path : List ℕ) →
    content (newer ++ older) path ≡ option_or (content newer path) (content older path)
content-append [] older path = refl
content-append (acted run place act ∷ newer) older path =
    this_or-append (bytes_eq (act_path act) path) (content newer path) (content older path) _
    (act_bytes act) (content-append newer older path)
content-append (ended run made ∷ newer) older path = content-append newer older path

pub has-append : (m : Mark) (newer older : Journal)
    → has m (newer ++ older) ≡ (has m newer || has m older)
has-append m [] older = refl
has-append m (e ∷ newer) older = ap (λ b. same_mark (mark e) m || b) (has-append m newer older)
    ∙ sym (or_assoc (same_mark (mark e) m) (has m newer) (has m older))

pub acts_of-append : (newer older : Journal) → acts_of (newer ++ older)
    ≡ acts_of newer ++ acts_of older
acts_of-append [] older = refl
acts_of-append (acted run place act ∷ newer) older = ap (λ acts. act ∷ acts)
    (acts_of-append newer older)
acts_of-append (ended run made ∷ newer) older = acts_of-append newer older

pub last_act-append : (newer older : Journal) (path : List ℕ) →
    last_act (newer ++ older) path ≡ option_or (last_act newer path) (last_act older path)
last_act-append newer older path =
    ap (find (has_path path)) (acts_of-append newer older)
    ∙ find-append (has_path path) (acts_of newer) (acts_of older)

pub has-is : (m : Mark) (journal : Journal) → has m journal
    ≡ list_any (λ e. same_mark (mark e) m) journal
has-is m [] = refl
has-is m (e ∷ journal) = ap (λ b. same_mark (mark e) m || b) (has-is m journal)

-- ---- one more entry, as at a step of a loop

acts_of-more : (entries : Journal) (i : ℕ) (d : Entry) → i < length entries
    → acts_of (take (suc i) entries) ≡ acts_of (take i entries)
    ++ option_to_list (act_in (get_or entries i d))
acts_of-more [] i d w = absurd (omega arith)
acts_of-more (acted run place act ∷ entries) zero d w = refl
acts_of-more (ended run made ∷ entries) zero d w = refl
acts_of-more (acted run place act ∷ entries) (suc i) d w = ap (λ acts. act ∷ acts)
    (acts_of-more entries i d (omega arith))
acts_of-more (ended run made ∷ entries) (suc i) d w = acts_of-more entries i d (omega arith)

pub one_more_act : (entries : Journal) (i : ℕ) (e : Entry) (acts : List Act) (found : Option Act)
    → i < length entries → e ≡ get_or entries i e → acts ≡ acts_of (take i entries)
    → found ≡ act_in e → acts ++ option_to_list found ≡ acts_of (take (i + 1) entries)
one_more_act entries i e acts found w is so_far told =
    rw add-one (ap (λ o. acts ++ option_to_list o) (told ∙ ap act_in is)
    ∙ (ap (λ before. before ++ option_to_list (act_in (get_or entries i e))) so_far
    ∙ sym (acts_of-more entries i e w)))
