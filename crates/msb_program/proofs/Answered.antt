-- What holds of an invocation and its status, by what the status says.
use Rattle.std.proofs.Common.{ℕ, List}
use Rattle.msb_outcomes.specs.Outcomes.{Answering}
use Rattle.msb_program.specs.Answered.{IsAnswered}
use Rattle.msb_program.specs.Answers.{Answers}
use Rattle.msb_program.specs.Endings.{SinkChange, StoreChange}
use Rattle.msb_program.proofs.CleanAnswers.{answers_clean}
use Rattle.msb_program.proofs.Meant.{answers_meant}
use Rattle.msb_program.proofs.NextBuilds.{build_idles, build_skips, stays_fresh}
use Rattle.msb_program.proofs.Parts.{invocation_of}

pub is_answered : (tools : Answering) (words : List (List ℕ)) (s : StoreChange)
    (p : SinkChange) (status : ℕ) → Answers tools words s p status →
    IsAnswered tools (invocation_of words s p) status
is_answered tools words s p status answers = record {
  answer = answers;
  meaning = λ meant means. answers_meant tools words s p status answers meant means;
  clean = λ clean means. answers_clean tools words s p status answers clean means;
  stays = λ left again means. stays_fresh tools words s p status answers left again means;
  skips = λ clean means. build_skips tools words s p status answers clean means;
  idle = λ clean means. build_idles tools words s p status answers clean means;
}
