use Rattle.file_store.proofs.Places.{put_there}
use Rattle.file_store.proofs.tree.put_at_place.Goals as goal

pub returns-in-Ok-clause-ok : goal.returns-in-Ok-clause-ok
returns-in-Ok-clause-ok c = put_there c.args.file c.args.files.now.items c.in-Ok.at
    (rw (c.deref.ensures.value, c.as_str.ensures) at c.in-Ok.ensures.there)
