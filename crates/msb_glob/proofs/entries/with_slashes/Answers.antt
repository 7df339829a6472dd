use Rattle.std.proofs.Common.{◌++◌, ap, sym, ◌∙◌, rules}
use Rattle.msb_paths.specs.Segments.{is_backslash}
use Rattle.msb_glob.specs.Parsed.{with_slashes}
use Rattle.msb_glob.proofs.Segments.{read_on, read_last, with_slashes_is}
use Rattle.msb_glob.proofs.entries.with_slashes.Goals as goal

pub loop-part-preserved : goal.loop-part-preserved
loop-part-preserved c = record {
  is_text = search rules;
  so_far =
      ap (λ bs. c.push_str-in-Some.new.self ++ bs) (sym (with_slashes_is c.in-Some.behind.now))
      ∙ read_on 47 (λ part. part) is_backslash (with_slashes c.args.text.now) c.loop-part.whole _ _
      c.loop-part.rest.now c.in-Some.part.now c.in-Some.behind.now
      c.in-Some.ensures.parts
      (ap (λ bs. c.loop-part.whole ++ bs) (with_slashes_is c.loop-part.rest.now)
      ∙ c.loop-part.invariant.so_far)
      c.in_ok-push_str.ensures.ok c.in_ok-push_str-2.ensures.ok;
}

pub returns : goal.returns
returns c =
    read_last 47 (λ part. part) is_backslash (with_slashes c.args.text.now) c.loop-part.whole _
    c.loop-part.rest.now
    c.in_default.ensures.parts
    (ap (λ bs. c.loop-part.whole ++ bs) (with_slashes_is c.loop-part.rest.now)
    ∙ c.loop-part.invariant.so_far) c.in_ok-push_str-3.ensures.ok
