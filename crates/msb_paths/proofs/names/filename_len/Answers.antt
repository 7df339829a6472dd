use Rattle.std.proofs.Common.{Some, None, sym, ap, ◌∙◌, length, lit<, arith}
use Rattle.std.proofs.lemmas.List.{length-take-le, take_all}
use Rattle.std.proofs.lemmas.Str.Pattern.{rfind_char}
use Rattle.msb_paths.proofs.PartLaws.{name_ends, name_is_whole}
use Rattle.msb_paths.proofs.names.filename_len.Goals as goal

pub returns-in-Some-clause-value : goal.returns-in-Some-clause-value
returns-in-Some-clause-value c =
    let found = rfind_char 46 c.args.file.now (Some c.in-Some.at) c.in-Some.ensures.cases (lit< tt)
    in
    sym (name_ends c.args.file.now c.in-Some.at found.0 found.1 found.2)

pub returns-in-Some-clause-len : goal.returns-in-Some-clause-len
returns-in-Some-clause-len c =
    let found = rfind_char 46 c.args.file.now (Some c.in-Some.at) c.in-Some.ensures.cases (lit< tt)
    in
    sym (ap length (name_ends c.args.file.now c.in-Some.at found.0 found.1 found.2)
    ∙ length-take-le c.in-Some.at c.args.file.now (omega (arith, found.0)))

pub returns-in-None-clause-value : goal.returns-in-None-clause-value
returns-in-None-clause-value c =
    take_all _ c.args.file.now (omega arith) ∙ sym
    (name_is_whole c.args.file.now
    (rfind_char 46 c.args.file.now None c.in-None.ensures.cases (lit< tt)))

pub returns-in-None-clause-len : goal.returns-in-None-clause-len
returns-in-None-clause-len c =
    sym
    (ap length
    (name_is_whole c.args.file.now
    (rfind_char 46 c.args.file.now None c.in-None.ensures.cases (lit< tt))))
