use Rattle.std.proofs.Common.{◌≡◌, [], map, string_bytes, true, sym, ap, subst, ◌∙◌}
use Rattle.std.specs.List.{list_all}
use Rattle.clap.specs.Words.{
  HasKind,
  fault_of,
  found_of,
  is_simple,
  is_simple_and_free,
  matches_of,
  rows_of,
}
use Rattle.msb_words.specs.Grammar.{grammar}
use Rattle.msb_words.specs.Words.{is_word}
use Rattle.msb_words.proofs.Parsing.{
  grammar_is_simple,
  grammar_is_simple_itself,
  no_words,
  parsed,
  refused,
}
use Rattle.msb_words.proofs.given.Given.of.Goals as goal

pub returns-then-not-are_words : goal.returns-then-not-are_words
returns-then-not-are_words c =
    no_words (map string_bytes c.args.words.now) (sym c.are_words.ensures ∙ c.if-not-are_words.true)

pub returns-in-Ok : goal.returns-in-Ok
returns-in-Ok c =
    let words = map string_bytes c.args.words.now in
    let is = c.in_ok-grammar.ensures in
    let are : list_all is_word words ≡ true = sym c.are_words.ensures ∙ c.if-not-are_words.false in
    let none : fault_of grammar words ≡ [] = ap (λ a. fault_of a words) (sym is)
    ∙ c.in-Ok.ensures.kinds (ap is_simple_and_free is ∙ grammar_is_simple) in
    let rows : rows_of (found_of c.in-Ok.matches)
    ≡ matches_of grammar words =
    (c.in-Ok.ensures.matches (ap is_simple is ∙ grammar_is_simple_itself)).0
    ∙ ap (λ a. matches_of a words) is in
    let is_found = parsed words (found_of c.in-Ok.matches) are none rows in
    rw (← is_found.all) (c.among.ensures is_found.clean is_found.flag)

pub returns-in-Err : goal.returns-in-Err
returns-in-Err c =
    let words = map string_bytes c.args.words.now in
    let is = c.in_ok-grammar.ensures in
    let are : list_all is_word words ≡ true = sym c.are_words.ensures ∙ c.if-not-are_words.false in
    let kind : HasKind (fault_of grammar words) c.in-Err.error = subst
    (λ a. HasKind (fault_of a words) c.in-Err.error) is
    (c.in-Err.ensures.kinds (ap is_simple_and_free is ∙ grammar_is_simple)) in
    rw (c.fault_of.ensures, c.kind.ensures) (refused words _ are kind)
