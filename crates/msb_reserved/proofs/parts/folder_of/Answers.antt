use Rattle.std.proofs.Common.{Some, None, sym, lit<, arith}
use Rattle.std.proofs.lemmas.Str.Pattern.{rfind_char}
use Rattle.msb_reserved.proofs.Folders.{folder_ends, folder_is_root}
use Rattle.msb_reserved.proofs.parts.folder_of.Goals as goal

pub returns-in-Some : goal.returns-in-Some
returns-in-Some c =
    let found =
    rfind_char 47 c.args.path.now (Some c.in-Some.at) c.in-Some.ensures.cases (lit< tt) in
    let ends = folder_ends c.args.path.now c.in-Some.at found.0 found.1 found.2 in
    grind (arith, c.range.ensures.value, ends)

pub returns-in-None : goal.returns-in-None
returns-in-None c =
    sym (folder_is_root c.args.path.now
    (rfind_char 47 c.args.path.now None c.in-None.ensures.cases (lit< tt)))
