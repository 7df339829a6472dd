use Rattle.std.proofs.Common.{ap, ◌∙◌}
use Rattle.result_cache.specs.Journal.{content}
use Rattle.msb_files.specs.Growth.{news}
use Rattle.msb_files.proofs.Contents.{content-append}
use Rattle.msb_files.proofs.Growing.{merge-news}
use Rattle.msb_files.proofs.laws.merges_put_news_in_front.Goals as goal

pub returns-clause-merged : goal.returns-clause-merged
returns-clause-merged c = merge-news

pub returns-clause-content : goal.returns-clause-content
returns-clause-content c = λ journal other path once.
    ap (λ j. content j path) (merge-news journal other once)
    ∙ content-append (news journal other) journal path
