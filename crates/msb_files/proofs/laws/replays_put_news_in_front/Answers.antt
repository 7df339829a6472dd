use Rattle.msb_files.specs.Growth.{Grows}
use Rattle.msb_files.proofs.Contents.{content-append}
use Rattle.msb_files.proofs.Growing.{replay_keeps, grows_added, grows_itself}
use Rattle.msb_files.proofs.laws.replays_put_news_in_front.Goals as goal

pub returns-clause-replayed : goal.returns-clause-replayed
returns-clause-replayed c = λ table run journal after is.
    replay_keeps (Grows journal) (grows_added journal) table run journal after
    (grows_itself journal) is

pub returns-clause-content : goal.returns-clause-content
returns-clause-content c = content-append
