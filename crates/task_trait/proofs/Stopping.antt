-- What holds unless memory is wanted.
use Rattle.std.proofs.Common.{◌≡◌, refl}
use Rattle.task_trait.specs.Answers.{UnlessMemory}
use Rattle.task_trait.specs.declared.failures.Failure.{Failure}
use Rattle.task_trait.specs.declared.failures.Failure.TheVariants.{
  MissingSource,
  Counts,
  Destinations,
  MissingParameter,
  Raised,
  TooLarge,
  UnknownParameter,
  BadParameter,
  UnknownTask,
  BadPath,
  NotText,
  NoProject,
  Memory,
}

pub unless : {P Q : Type 0} (failure : Failure) → (P → Q) → UnlessMemory failure P
    → UnlessMemory failure Q
unless (MissingSource path) f p = f p
unless (Counts sources destinations) f p = f p
unless Destinations f p = f p
unless (MissingParameter name) f p = f p
unless (Raised text) f p = f p
unless (TooLarge path) f p = f p
unless (UnknownParameter name) f p = f p
unless (BadParameter name) f p = f p
unless UnknownTask f p = f p
unless (BadPath path) f p = f p
unless (NotText path) f p = f p
unless (NoProject path) f p = f p
unless Memory f p = tt

-- a failure that has a note is not want of memory
pub told : {P : Type 0} (failure : Failure) → (failure ≡ Memory → ⊥) → UnlessMemory failure P → P
told (MissingSource path) noted p = p
told (Counts sources destinations) noted p = p
told Destinations noted p = p
told (MissingParameter name) noted p = p
told (Raised text) noted p = p
told (TooLarge path) noted p = p
told (UnknownParameter name) noted p = p
told (BadParameter name) noted p = p
told UnknownTask noted p = p
told (BadPath path) noted p = p
told (NotText path) noted p = p
told (NoProject path) noted p = p
told Memory noted p = absurd (noted refl)
