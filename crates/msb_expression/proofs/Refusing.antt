-- Where the machine stops, the byte is the bad one; where it ends early, the text is unclosed.
use Rattle.std.proofs.Common.{
  ◌≡◌,
  ℕ,
  ◌<◌,
  ◌+◌,
  suc,
  List,
  [],
  ◌∷◌,
  ◌++◌,
  length,
  drop,
  refl,
  sym,
  ap,
  ◌∙◌,
  subst,
  append_assoc,
  arith,
  length-append,
  length-drop,
  ◌⊎◌,
  inl,
  inr,
}
use Rattle.std.specs.Prelude.{reverse}
use Rattle.std.proofs.lemmas.List.{append-nil, reverse-append, drop_at}
use Rattle.msb_expression.specs.declared.expression.Part.{Part}
use Rattle.msb_expression.specs.declared.sorts.Kind.{Kind}
use Rattle.msb_expression.specs.Grammar.{IsReading}
use Rattle.msb_expression.specs.Refusals.{
  CanGoOn,
  IsBadAt,
  IsUnclosed,
  outside,
  left_behind,
  left_after,
  is_in_property,
  kind_at,
}
use Rattle.msb_expression.specs.Machine.{
  sort_of,
  whole,
  inner,
  Mode,
  in_text,
  Next,
  go,
  stop,
  step_of,
  Outcome,
  done,
  bad,
  early,
  finish,
  followed,
  run,
  begin,
}
use Rattle.msb_expression.proofs.Behind.{Behind}
use Rattle.msb_expression.proofs.KeepsText.{Keeps}
use Rattle.msb_expression.proofs.Sound.{step_keeps, begins, run_sound}
use Rattle.msb_expression.proofs.Complete.{run_complete}
use Rattle.msb_expression.proofs.Runs.{run-go, run-stop}
use Rattle.msb_expression.proofs.Closing.{goes_on}
use Rattle.msb_expression.proofs.Trails.{Trail}
use Rattle.msb_expression.proofs.Lefts.{
  LeftIs,
  in_property,
  property_is,
  left_after-push,
  step_left,
}
use Rattle.msb_expression.proofs.KeepsTrails.{FollowsIn, step_follows, kind_follows}

-- the machine reads some bytes from a mode on, and stops at the next
pub record StopsAt (mode : Mode) (start bs rest : List ℕ) (kind : Kind) : Type 0 where
  pub front : List ℕ
  pub byte : ℕ
  pub tail : List ℕ
  pub last : Mode
  pub split : bs ≡ front ++ byte ∷ tail
  pub rest_is : rest ≡ byte ∷ tail
  pub behind : Behind last (start ++ front)
  pub trail : Trail last (reverse (start ++ front))
  pub left : LeftIs last (left_after (outside 0) (start ++ front))
  pub stops : step_of last (sort_of byte) byte ≡ stop kind
  pub runs : (more : List ℕ) → run (front ++ more) mode ≡ run more last

reverse-push : (xs : List ℕ) (b : ℕ) → reverse (xs ++ b ∷ []) ≡ b ∷ reverse xs
reverse-push xs b = reverse-append xs (b ∷ [])

same_kind : (j k : Kind) (xs ys : List ℕ) → bad j xs ≡ bad k ys → j ≡ k
same_kind j k xs ys e = cc

same_rest : (j k : Kind) (xs ys : List ℕ) → bad j xs ≡ bad k ys → xs ≡ ys
same_rest j k xs ys e = cc

finish_is_no_stop : (mode : Mode) (kind : Kind) (rest : List ℕ) → finish mode ≡ bad kind rest → ⊥
finish_is_no_stop (in_text (whole parts) plain mark) kind rest e = cc
finish_is_no_stop (in_text (inner place pieces) plain mark) kind rest e = cc
finish_is_no_stop _ kind rest e = cc

-- what stands behind a mode
pub record At (mode : Mode) (start : List ℕ) : Type 0 where
  pub behind : Behind mode start
  pub trail : Trail mode (reverse start)
  pub left : LeftIs mode (left_after (outside 0) start)

here : (mode : Mode) (start : List ℕ) (b : ℕ) (bs rest : List ℕ) (kind : Kind) → At mode start
    → step_of mode (sort_of b) b ≡ stop kind → rest ≡ b ∷ bs → StopsAt mode start (b ∷ bs) rest kind
here mode start b bs rest kind h e r = record {
  front = [];
  byte = b;
  tail = bs;
  last = mode;
  split = refl;
  rest_is = r;
  behind = subst (λ x. Behind mode x) (sym (append-nil start)) h.behind;
  trail = subst (λ x. Trail mode (reverse x)) (sym (append-nil start)) h.trail;
  left = subst (λ x. LeftIs mode (left_after (outside 0) x)) (sym (append-nil start)) h.left;
  stops = e;
  runs = λ more. refl;
}

later : (mode next : Mode) (start : List ℕ) (b : ℕ) (bs rest : List ℕ) (kind : Kind)
    → step_of mode (sort_of b) b ≡ go next → StopsAt next (start ++ b ∷ []) bs rest kind
    → StopsAt mode start (b ∷ bs) rest kind
later mode next start b bs rest kind e s = record {
  front = b ∷ s.front;
  byte = s.byte;
  tail = s.tail;
  last = s.last;
  split = ap (λ x. b ∷ x) s.split;
  rest_is = s.rest_is;
  behind = subst (λ x. Behind s.last x) (append_assoc start (b ∷ []) s.front) s.behind;
  trail = subst (λ x. Trail s.last (reverse x)) (append_assoc start (b ∷ []) s.front) s.trail;
  left =
      subst (λ x. LeftIs s.last (left_after (outside 0) x))
      (append_assoc start (b ∷ []) s.front) s.left;
  stops = s.stops;
  runs = λ more. run-go b (s.front ++ more) mode next e ∙ s.runs more;
}

-- a step goes on to a mode behind which that stands too
goes_at : (mode next : Mode) (start : List ℕ) (b : ℕ) → At mode start
    → step_of mode (sort_of b) b ≡ go next → At next (start ++ b ∷ [])
goes_at mode next start b h e = record {
  behind =
      subst (λ n. Keeps n (λ m. Behind m (start ++ b ∷ []))) e (step_keeps mode start b h.behind);
  trail = subst (λ x. Trail next x) (sym (reverse-push start b))
      (subst (λ n. FollowsIn (in_property mode) n b (reverse start)) e
      (step_follows mode (left_after (outside 0) start) (reverse start) b h.left h.trail));
  left = subst (λ l. LeftIs next l) (sym (left_after-push (outside 0) start b))
      (subst (λ n. Keeps n (λ m. LeftIs m (left_behind (left_after (outside 0) start) b))) e
      (step_left mode (left_after (outside 0) start) b h.left));
}

stops_next : (mode : Mode) (start : List ℕ) (b : ℕ) (bs rest : List ℕ) (kind : Kind) (next : Next)
    → At mode start
    → step_of mode (sort_of b) b ≡ next
    → ((m : Mode) → At m (start ++ b ∷ []) → run bs m ≡ bad kind rest
    → StopsAt m (start ++ b ∷ []) bs rest kind)
    → followed (run bs) next (b ∷ bs) ≡ bad kind rest → StopsAt mode start (b ∷ bs) rest kind
stops_next mode start b bs rest kind (go m) h e again g =
    later mode m start b bs rest kind e (again m (goes_at mode m start b h e) g)
stops_next mode start b bs rest kind (stop j) h e again g =
    here mode start b bs rest kind h (e ∙ ap stop (same_kind j kind (b ∷ bs) rest g))
    (sym (same_rest j kind (b ∷ bs) rest g))

pub stops_at : (bs : List ℕ) (mode : Mode) (start rest : List ℕ) (kind : Kind) → At mode start
    → run bs mode ≡ bad kind rest → StopsAt mode start bs rest kind
unfolding run
stops_at [] mode start rest kind h e = absurd (finish_is_no_stop mode kind rest e)
stops_at (b ∷ bs) mode start rest kind h e =
    stops_next mode start b bs rest kind (step_of mode (sort_of b) b) h refl
    (λ m k g. stops_at bs m (start ++ b ∷ []) rest kind k g) e

at_begin : At begin []
at_begin = record {
  behind = begins;
  trail = record { mark_is = (refl, refl, refl); outside = λ q. refl };
  left = (0, refl, refl);
}

pub text_stops : (text rest : List ℕ) (kind : Kind) → run text begin ≡ bad kind rest
    → StopsAt begin [] text rest kind
text_stops text rest kind e = stops_at text begin [] rest kind at_begin e

-- no text goes on through the byte where the machine stops
pub no_way : (text rest : List ℕ) (kind : Kind) (s : StopsAt begin [] text rest kind)
    (more : List ℕ) (parts : List Part) → IsReading (s.front ++ s.byte ∷ more) parts → ⊥
no_way text rest kind s more parts r =
    let e : done parts ≡ bad kind (s.byte ∷ more) = sym
    (run_complete (s.front ++ s.byte ∷ more) parts r) ∙ s.runs (s.byte ∷ more)
    ∙ run-stop s.byte more s.last kind s.stops in
    cc

pub stops_through : (text rest : List ℕ) (kind : Kind) (s : StopsAt begin [] text rest kind)
    → CanGoOn (s.front ++ s.byte ∷ []) → ⊥
stops_through text rest kind s c =
    no_way text rest kind s c.0 c.1
    (subst (λ t. IsReading t c.1) (append_assoc s.front (s.byte ∷ []) c.0) c.2)

pub stops_kind : (text rest : List ℕ) (kind : Kind) (s : StopsAt begin [] text rest kind)
    → kind_at s.byte s.front ≡ kind
stops_kind text rest kind s =
    kind_follows (is_in_property (left_after (outside 0) s.front)) (in_property s.last) kind s.byte
    (reverse s.front)
    (property_is s.last (left_after (outside 0) s.front) s.left)
    (subst (λ n. FollowsIn (in_property s.last) n s.byte (reverse s.front)) s.stops
    (step_follows s.last (left_after (outside 0) s.front) (reverse s.front) s.byte s.left s.trail))

place_of : (text front tail : List ℕ) (byte n : ℕ) → text ≡ front ++ byte ∷ tail
    → drop n text ≡ byte ∷ tail → n < length text → length front ≡ n
place_of text front tail byte n e d h =
    let a : length text ≡ length front + suc (length tail) = ap length e
    ∙ length-append front (byte ∷ tail) in
    let b = sym (length-drop n text) ∙ ap length d in
    omega arith

pub run_bad : (text : List ℕ) (n : ℕ) (kind : Kind) → run text begin ≡ bad kind (drop n text)
    → n < length text → IsBadAt text n kind
run_bad text n kind e h =
    let s : StopsAt begin [] text (drop n text) kind = text_stops text (drop n text) kind e in
    record {
      front = s.front;
      byte = s.byte;
      rest = s.tail;
      whole = s.split;
      place_is = place_of text s.front s.tail s.byte n s.split s.rest_is h;
      before = goes_on s.last s.front s.behind;
      through = stops_through text (drop n text) kind s;
      kind_is = stops_kind text (drop n text) kind s;
    }

-- the machine at the end of a text
abbrev Ended : Mode → List ℕ → List ℕ → Type 0
Ended mode start bs = (last : Mode) × Behind last (start ++ bs)

early_next : (mode : Mode) (start : List ℕ) (b : ℕ) (bs : List ℕ) (next : Next)
    → Keeps next (λ m. Behind m (start ++ b ∷ []))
    → ((m : Mode) → Behind m (start ++ b ∷ []) → run bs m ≡ early → Ended m (start ++ b ∷ []) bs)
    → followed (run bs) next (b ∷ bs) ≡ early → Ended mode start (b ∷ bs)
early_next mode start b bs (go m) k again e =
    let r : Ended m (start ++ b ∷ []) bs = again m k e in
    (r.0, subst (λ x. Behind r.0 x) (append_assoc start (b ∷ []) bs) r.1)
early_next mode start b bs (stop j) k again e = cc

early_at : (bs : List ℕ) (mode : Mode) (start : List ℕ) → Behind mode start → run bs mode ≡ early
    → Ended mode start bs
unfolding run
early_at [] mode start h e = (mode, subst (λ x. Behind mode x) (sym (append-nil start)) h)
early_at (b ∷ bs) mode start h e = early_next mode start b bs (step_of mode (sort_of b) b)
    (step_keeps mode start b h) (λ m k g. early_at bs m (start ++ b ∷ []) k g) e

pub early_goes_on : (text : List ℕ) → run text begin ≡ early → CanGoOn text
early_goes_on text e = let r = early_at text begin [] begins e in goes_on r.0 text r.1

pub run_early : (text : List ℕ) (n : ℕ) → run text begin ≡ early → n ≡ length text
    → IsUnclosed text n
run_early text n e l = record {
  goes_on = early_goes_on text e;
  unread = λ parts r. let k = sym (run_complete text parts r) ∙ e in cc;
  place_is = sym l;
}

-- The other way round: a text that is unclosed ends early, and the bad byte is where the machine
-- stops.
pub unclosed_is_early : (text : List ℕ) (n : ℕ) → IsUnclosed text n → run text begin ≡ early
unclosed_is_early text n u = outcome (run text begin) refl
  where
    outcome : (o : Outcome) → run text begin ≡ o → o ≡ early
    outcome early e = refl
    outcome (done parts) e = absurd (u.unread parts (run_sound text parts e))
    outcome (bad kind rest) e =
        let s : StopsAt begin [] text rest kind = text_stops text rest kind e in
        absurd (no_way text rest kind s (s.tail ++ u.goes_on.0) u.goes_on.1
        (subst (λ t. IsReading t u.goes_on.1)
        (ap (λ t. t ++ u.goes_on.0) s.split
        ∙ append_assoc s.front (s.byte ∷ s.tail) u.goes_on.0) u.goes_on.2))

-- a text that goes on through a byte goes on through each byte before
goes_on_front : (front more : List ℕ) → CanGoOn (front ++ more) → CanGoOn front
goes_on_front front more c =
    (more ++ c.0, c.1, subst (λ t. IsReading t c.1) (append_assoc front more c.0) c.2)

-- of two fronts of a text with the next byte of each, one is within the other or they are the same
abbrev Fronts : List ℕ → ℕ → List ℕ → List ℕ → ℕ → List ℕ → Type 0
Fronts f a x g b y =
    ((more : List ℕ) × (g ≡ (f ++ a ∷ []) ++ more))
    ⊎ (((more : List ℕ) × (f ≡ (g ++ b ∷ []) ++ more)) ⊎ ((f ≡ g) × (a ≡ b) × (x ≡ y)))

longer : (f g x y : List ℕ) (a b c : ℕ) → Fronts f a x g b y → Fronts (c ∷ f) a x (c ∷ g) b y
longer f g x y a b c (inl p) = inl (p.0, ap (λ t. c ∷ t) p.1)
longer f g x y a b c (inr (inl p)) = inr (inl (p.0, ap (λ t. c ∷ t) p.1))
longer f g x y a b c (inr (inr p)) = inr (inr (ap (λ t. c ∷ t) p.0, p.1, p.2))

head_same : (x y : ℕ) (xs ys : List ℕ) → x ∷ xs ≡ y ∷ ys → x ≡ y
head_same x y xs ys e = cc

tail_same : (x y : ℕ) (xs ys : List ℕ) → x ∷ xs ≡ y ∷ ys → xs ≡ ys
tail_same x y xs ys e = cc

fronts : (f g x y : List ℕ) (a b : ℕ) → f ++ a ∷ x ≡ g ++ b ∷ y → Fronts f a x g b y
fronts [] [] x y a b e = inr (inr (refl, head_same a b x y e, tail_same a b x y e))
fronts [] (c ∷ g) x y a b e = inl (g, ap (λ t. t ∷ g) (sym (head_same a c x (g ++ b ∷ y) e)))
fronts (c ∷ f) [] x y a b e = inr (inl (f, ap (λ t. t ∷ f) (head_same c b (f ++ a ∷ x) y e)))
fronts (c ∷ f) (d ∷ g) x y a b e =
    let h : c ≡ d = head_same c d (f ++ a ∷ x) (g ++ b ∷ y) e in
    subst (λ t. Fronts (c ∷ f) a x (t ∷ g) b y) h
    (longer f g x y a b c (fronts f g x y a b (tail_same c d (f ++ a ∷ x) (g ++ b ∷ y) e)))

pub bad_is_stop : (text : List ℕ) (n : ℕ) (kind : Kind) → IsBadAt text n kind
    → run text begin ≡ bad kind (drop n text)
bad_is_stop text n kind h = outcome (run text begin) refl
  where
    through_text : CanGoOn text → ⊥
    through_text c = h.through
        (goes_on_front (h.front ++ h.byte ∷ []) h.rest
        (subst (λ t. CanGoOn t) (h.whole ∙ sym (append_assoc h.front (h.byte ∷ []) h.rest)) c))

    rest_is : drop n text ≡ h.byte ∷ h.rest
    rest_is = ap (drop n) h.whole ∙ drop_at h.front (h.byte ∷ h.rest) n h.place_is

    same : (k : Kind) (rest : List ℕ) (s : StopsAt begin [] text rest k)
        → Fronts h.front h.byte h.rest s.front s.byte s.tail → bad k rest ≡ bad kind (drop n text)
    same k rest s (inl p) = absurd
        (h.through
        (goes_on_front (h.front ++ h.byte ∷ []) p.0
        (subst (λ t. CanGoOn t) p.1 (goes_on s.last s.front s.behind))))
    same k rest s (inr (inl p)) = absurd
        (stops_through text rest k s
        (goes_on_front (s.front ++ s.byte ∷ []) p.0 (subst (λ t. CanGoOn t) p.1 h.before)))
    same k rest s (inr (inr p)) =
        let kinds : k ≡ kind =
        sym (stops_kind text rest k s) ∙ ap (λ b. kind_at b s.front) (sym p.1)
        ∙ ap (λ f. kind_at h.byte f) (sym p.0) ∙ h.kind_is in
        let rests : rest ≡ drop n text = s.rest_is ∙ ap (λ b. b ∷ s.tail) (sym p.1)
        ∙ ap (λ t. h.byte ∷ t) (sym p.2) ∙ sym rest_is in
        ap (λ j. bad j rest) kinds ∙ ap (λ r. bad kind r) rests

    outcome : (o : Outcome) → run text begin ≡ o → o ≡ bad kind (drop n text)
    outcome (done parts) e = absurd
        (through_text (
          [],
          parts,
          subst (λ t. IsReading t parts) (sym (append-nil text))
              (run_sound text parts e),
        ))
    outcome early e = absurd (through_text (early_goes_on text e))
    outcome (bad k rest) e =
        let s : StopsAt begin [] text rest k = text_stops text rest k e in
        same k rest s (fronts h.front s.front h.rest s.tail h.byte s.byte (sym h.whole ∙ s.split))
