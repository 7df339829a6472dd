use Rattle.std.proofs.Common.{
  ◌≡◌,
  ◌+◌,
  ◌-◌,
  ◌<◌,
  ◌≤◌,
  length,
  drop,
  take,
  get_or,
  Some,
  sym,
  ap,
  ◌∙◌,
  subst,
  arith,
}
use Rattle.std.proofs.lemmas.List.{drop_more, take_rest}
use Rattle.msb_condition.specs.Places.{IsNext}
use Rattle.msb_condition.specs.Tokens.{is_space, begins_with, kind_of, more_of}
use Rattle.msb_condition.proofs.TokenLaws.{token_next, kind_fits, KindIs, kind_is}
use Rattle.msb_condition.proofs.Cuts.{cut_by}
use Rattle.msb_condition.proofs.tokens.token_at.Goals as goal

pub more_of-requires : goal.more_of-requires
more_of-requires c =
    let bytes = c.as_bytes-bytes.result.now in
    let start = c.spaces_end-start.result in
    kind_fits c.kind_of-kind.result (get_or bytes start 0)
    (take (length bytes - (start + 1)) (drop (start + 1) bytes)) c.kind_of-kind.ensures

pub returns-clause-next : goal.returns-clause-next
returns-clause-next c =
    let bytes = c.as_bytes-bytes.result.now in
    let start = c.spaces_end-start.result in
    let l : start < length bytes = omega arith in
    subst
    (λ t.
    IsNext t c.args.at
    (Some
    (record
    { kind = c.kind_of-kind.result; start = start; end = start + 1 + c.more_of.result })))
    c.as_bytes-bytes.ensures.value
    (token_next bytes c.args.at start c.kind_of-kind.result c.more_of.result l
    c.spaces_end-start.ensures.over
    (sym (ap (begins_with is_space) (drop_more bytes start 0 l))
    ∙ c.spaces_end-start.ensures.no_space)
    (c.kind_of-kind.ensures ∙ ap (kind_of (get_or bytes start 0)) (take_rest bytes (start + 1)))
    (c.more_of.ensures.value ∙ ap (more_of c.kind_of-kind.result) (take_rest bytes (start + 1))))

pub returns-clause-cut : goal.returns-clause-cut
returns-clause-cut c =
    let text = c.args.text.now in
    let bytes = c.as_bytes-bytes.result.now in
    let start = c.spaces_end-start.result in
    let same = c.as_bytes-bytes.ensures.value in
    let l : start < length text = subst (λ t. start < length t) same (omega arith) in
    let e : take (length bytes - (start + 1)) (drop (start + 1) bytes)
    ≡ drop (start + 1) text = take_rest bytes (start + 1) ∙ ap (drop (start + 1)) same in
    let kind : c.kind_of-kind.result ≡ kind_of (get_or text start 0) (drop (start + 1) text) =
    c.kind_of-kind.ensures ∙ ap (kind_of (get_or bytes start 0)) e
    ∙ ap (λ t. kind_of (get_or t start 0) (drop (start + 1) text)) same in
    cut_by c.kind_of-kind.result text start c.more_of.result c.utf8.text l
    (subst (λ k. KindIs k (get_or text start 0) (drop (start + 1) text)) (sym kind)
    (kind_is (get_or text start 0) (drop (start + 1) text)))
    (c.more_of.ensures.value ∙ ap (more_of c.kind_of-kind.result) e)
    (subst (λ t. c.more_of.result ≤ length t) e c.more_of.ensures.within)
