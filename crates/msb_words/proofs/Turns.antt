-- One turn of a loop that goes on from what is so far, or ends at the first refusal.
use Rattle.std.proofs.Common.{
  ◌≡◌,
  ℕ,
  ◌<◌,
  List,
  length,
  drop,
  get_or,
  Option,
  None,
  Err,
  refl,
  sym,
  ap,
  ◌∙◌,
}
use Rattle.std.proofs.lemmas.List.{drop_more}
use Rattle.msb_words.specs.Answers.{Reads}
use Rattle.msb_words.specs.Values.{global_of, globals_after}
use Rattle.msb_words.specs.declared.faults.WordFault.{WordFault}
use Rattle.msb_words.specs.declared.faults.WordFault.TheVariants.{Usage, Memory}

-- a refusal of a step is the refusal of the whole
pub passed_on : {T U : Type 0} (fault : WordFault) (step : Option T) (whole : Option U)
    → (step ≡ None → whole ≡ None) → Reads step (Err fault) → Reads whole (Err fault)
passed_on Usage step whole same is = same is
passed_on Memory step whole same is = tt

-- an entry that is no property's ends the loop
pub global_stops : (entries : List (List ℕ)) (i : ℕ) (entry : List ℕ)
    (globals : List (List ℕ × List ℕ)) (all : Option (List (List ℕ × List ℕ)))
    → globals_after globals (drop i entries) ≡ all → i < length entries
    → entry ≡ get_or entries i entry → global_of entry ≡ None → all ≡ None
global_stops entries i entry globals all now h is none =
    sym now ∙ ap (globals_after globals) (drop_more entries i entry h) ∙ rw (← is, none) refl
