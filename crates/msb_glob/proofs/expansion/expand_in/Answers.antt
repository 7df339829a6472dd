use Rattle.std.proofs.Common.{map, Bor, List, ℕ, ◌≡◌, filter, ap, ◌∙◌, rules}
use Rattle.msb_glob.specs.Expanded.{match_of}
use Rattle.msb_glob.specs.Front.{front_of}
use Rattle.msb_glob.proofs.Blocks.{begins_with, found_is, expands}
use Rattle.msb_glob.proofs.expansion.expand_in.Goals as goal

pub returns-clause-sorted : goal.returns-clause-sorted
returns-clause-sorted g c =
    let pattern = c.args.pattern.now in
    let paths = c.args.paths.now in
    let front : c.as_str.result.now ≡ front_of pattern.parts = search rules in
    let block = c.beginning_with.ensures.whole
    ∙ ap (λ text. filter (begins_with text) paths) front in
    let found = found_is pattern paths (map g.P.HasPath.path c.beginning_with.result.now) _ block
    c.in_ok-found.ensures in
    expands pattern paths _ _ c.beginning_with.ensures.in_order found
    (c.in_ok-matches_of.ensures
    ∙ ap (λ (refs : List (Bor (List ℕ))). map (match_of pattern) (map (λ path. path.now) refs))
    c.deref.ensures.value)

pub returns-clause-kept : goal.returns-clause-kept
returns-clause-kept g c =
    let pattern = c.args.pattern.now in
    let paths = c.args.paths.now in
    let front : c.as_str.result.now ≡ front_of pattern.parts = search rules in
    let block = c.beginning_with.ensures.whole
    ∙ ap (λ text. filter (begins_with text) paths) front in
    let found = found_is pattern paths (map g.P.HasPath.path c.beginning_with.result.now) _ block
    c.in_ok-found.ensures in
    c.in_ok-matches_of.ensures
    ∙ ap (λ (refs : List (Bor (List ℕ))). map (match_of pattern) (map (λ path. path.now) refs))
    c.deref.ensures.value
    ∙ ap (map (match_of pattern)) found
