-- What the answer to an ask leaves of the history: it continues, and the node has not retired.
use Rattle.std.proofs.Common.{◌≡◌, ℕ, List, Option, None, false, sym, ◌∙◌}
use mathlib.Core.List.{IsPrefix}
use Rattle.result_cache.specs.Table.{Records}
use Rattle.build_meaning.specs.declared.event.Event.{Event}
use Rattle.build_meaning.specs.World.{World}
use Rattle.build_scheduler.specs.declared.reply.Reply.{Reply}
use Rattle.build_scheduler.specs.declared.reply.Reply.TheVariants.{
  GoesOn,
  UsesOwn,
  Waits,
  Over,
  Stopped,
  NoMemory,
}
use Rattle.build_scheduler.specs.declared.slot.End.{End}
use Rattle.build_scheduler.specs.declared.walker.Ask.{Ask}
use Rattle.build_scheduler.specs.Own.{Seen}
use Rattle.build_scheduler.specs.Replies.{IsReply}
use Rattle.build_scheduler.proofs.Replying.{claim-event, over-event, result-event, wait-event}
use Rattle.build_nodes.specs.Leaving.{has_left}
use Rattle.build_nodes.specs.Marked.{marked}
use Rattle.build_nodes.proofs.Active.{active-own, active-same}
use Rattle.build_nodes.proofs.Marks.{none-more, own-ahead}

module _ {W P I A : Type 0} (seen : W → Seen P I A) (w : World P I A) (events now : List Event)
    (table : Records) (before end : Option End) (id : ℕ) (walk : W) (ask : Ask)
    (running : before ≡ None) where
  pub reply-ahead : (reply : Reply W) → IsReply seen w events now table end id walk ask reply
      → IsPrefix (marked events before) (marked now end)
  reply-ahead (GoesOn back answer) r =
      own-ahead events now id before end running (claim-event events now id ask answer r.0)
  reply-ahead (UsesOwn back) r =
      own-ahead events now id before end running (result-event events now id ask r.0)
  reply-ahead Waits r =
      own-ahead events now id before end running (wait-event events now id ask r.0)
  reply-ahead (Over left) r =
      own-ahead events now id before end running (over-event events now id ask end r.0)
  reply-ahead Stopped r = none-more events now before end running r.1
  reply-ahead (NoMemory back) r = none-more events now before end running r.3

  -- where no end is told
  module _ (node : ℕ) (untold : end ≡ None) (active : has_left node (marked events before) ≡ false)
    where
      pub reply-active : (reply : Reply W) → IsReply seen w events now table end id walk ask reply
          → has_left node (marked now end) ≡ false
      reply-active (GoesOn back answer) r = active-own node events now id before end running untold
          (claim-event events now id ask answer r.0) active
      reply-active (UsesOwn back) r = active-own node events now id before end running untold
          (result-event events now id ask r.0) active
      reply-active Waits r = active-own node events now id before end running untold
          (wait-event events now id ask r.0) active
      reply-active (Over left) r = active-own node events now id before end running untold
          (over-event events now id ask end r.0) active
      reply-active Stopped r =
          active-same node events now before end (untold ∙ sym running) r.1 active
      reply-active (NoMemory back) r =
          active-same node events now before end (untold ∙ sym running) r.3 active
