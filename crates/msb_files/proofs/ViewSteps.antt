-- What a view has, by what its journal and its tree answer.
use Rattle.std.proofs.Common.{
  ◌≡◌,
  ℕ,
  List,
  Option,
  Some,
  None,
  option_map,
  unwrap_or,
  is_some,
  Result,
  Ok,
  Err,
  IfOk,
  refl,
  ap,
  ◌∙◌,
  sym,
}
use Rattle.msb_values.specs.Acts.{act_bytes}
use Rattle.msb_values.specs.declared.act.Act.{Act}
use Rattle.msb_values.specs.declared.errors.NoMemory.{NoMemory}
use Rattle.file_store.specs.Commits.{bytes_there}
use Rattle.msb_files.specs.Indices.{last_act}
use Rattle.msb_files.specs.Views.{View, content, written}
use Rattle.msb_files.proofs.Contents.{content-is}

module _ (view : View) (path : List ℕ) where
  content_by : (last : Option Act) → last ≡ last_act view.journal path →
      unwrap_or (option_map act_bytes last) (bytes_there path view.files) ≡ content view path
  content_by last is = sym (ap (λ o. unwrap_or o (bytes_there path view.files))
      (content-is view.journal path ∙ ap (option_map act_bytes) (sym is)))

  pub acted_content : (act : Act) → Some act ≡ last_act view.journal path
      → act_bytes act ≡ content view path
  acted_content act is = content_by (Some act) is

  pub tree_content : None ≡ last_act view.journal path
      → bytes_there path view.files ≡ content view path
  tree_content none = content_by None none

  mapped : (last : Option Act) → is_some (option_map act_bytes last) ≡ is_some last
  mapped None = refl
  mapped (Some act) = refl

  pub written_by : is_some (last_act view.journal path) ≡ written view path
  written_by = sym (ap is_some (content-is view.journal path) ∙ mapped (last_act view.journal path))

pub if_ok_is : {X : Type 0} (r : Result X NoMemory) (a b : X) → IfOk r (λ x. x ≡ a) → a ≡ b
    → IfOk r (λ x. x ≡ b)
if_ok_is (Ok x) a b is e = is ∙ e
if_ok_is (Err fault) a b is e = is
