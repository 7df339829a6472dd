-- One part after another: how parts are put together doesn't matter, and a run gets as far by its
-- parts as by itself.
use Rattle.std.proofs.Common.{◌≡◌, refl}
use Rattle.target_body.specs.Work.{Work, done, does, uses, calls, followed_by}
use Rattle.target_body.specs.Played.{Player, Done, with_act, with_tool, played, reached_then}

pub follow_on : {R S T : Type 0} (w : Work R) (f : R → Work S) (g : S → Work T)
    → followed_by (followed_by w f) g ≡ followed_by w (λ end. followed_by (f end) g)
follow_on (done end) f g = refl
follow_on (does act go) f g = λ i. does act (λ journal. follow_on (go journal) f g i)
follow_on (uses name input go) f g = λ i. uses name input (λ answer. follow_on (go answer) f g i)
follow_on (calls key keys go) f g = λ i. calls key keys
    (λ results journal. follow_on (go results journal) f g i)

pub ends_there : {R : Type 0} (w : Work R) → followed_by w (λ end. done end) ≡ w
ends_there (done end) = refl
ends_there (does act go) = λ i. does act (λ journal. ends_there (go journal) i)
ends_there (uses name input go) = λ i. uses name input (λ answer. ends_there (go answer) i)
ends_there (calls key keys go) = λ i. calls key keys
    (λ results journal. ends_there (go results journal) i)

pub played_on : {R S : Type 0} (p : Player) (w : Work R) (f : R → Work S) (d : Done)
    → played p (followed_by w f) d ≡ reached_then p (played p w d) f
played_on p (done end) f d = refl
played_on p (does act go) f d = let next : Done = with_act p.run act d in played_on p
    (go next.journal) f next
played_on p (uses name input go) f d = played_on p (go (p.tools name input)) f
    (with_tool name input d)
played_on p (calls key keys go) f d = refl
