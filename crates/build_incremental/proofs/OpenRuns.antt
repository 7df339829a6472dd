-- A run that is open goes on in two worlds side by side: it acts on files, calls and ends.
use Rattle.std.proofs.Common.{
  ◌≡◌,
  ℕ,
  ◌≤◌,
  Bool,
  true,
  false,
  ◌||◌,
  ◌⊎◌,
  inl,
  inr,
  List,
  [],
  ◌∷◌,
  ◌++◌,
  length,
  Option,
  None,
  Some,
  refl,
  ap,
  sym,
  ◌∙◌,
  subst,
  append_assoc,
  arith,
}
use Rattle.std.specs.Prelude.{unwrap_or}
use Rattle.std.specs.Option.{option_or}
use Rattle.std.specs.Str.{bytes_eq}
use Rattle.msb_values.specs.Acts.{act_path, act_bytes}
use Rattle.msb_values.specs.declared.act.Act.{Act}
use Rattle.result_cache.specs.declared.run.RunId.{RunId}
use Rattle.result_cache.specs.declared.record.Record.{Record}
use Rattle.result_cache.specs.declared.record.Segment.{Segment}
use Rattle.result_cache.specs.declared.record.Segment.TheVariants.{File}
use Rattle.result_cache.specs.Lists.{In, this_or}
use Rattle.result_cache.specs.Same.{same_run}
use Rattle.result_cache.specs.Journal.{
  Journal,
  Entry,
  acted,
  ended,
  Mark,
  act_of,
  end_of,
  mark,
  same_mark,
  has,
  add,
  record_of,
  content,
}
use Rattle.result_cache.proofs.RunTests.{
  tells,
  or_cases,
  or_neither,
  same_run-refl,
  same_run-true,
  same_run-eq,
  same_mark-true,
}
use Rattle.result_cache.proofs.JournalEntries.{Has, had-none, add_new}
use Rattle.build_meaning.proofs.MeaningDerived.{in-left}
use Rattle.build_incremental.specs.Alike.{seen, AlikeRecords, AlikeFound, AlikeJournals}
use Rattle.build_incremental.specs.Alone.{LacksOnly, last_bytes, segments_of}
use Rattle.build_incremental.proofs.Entries.{
  none-or-some,
  none-some,
  record-append,
  has-append,
  HasEnded,
  front_if,
  own,
  own-append,
  own-marks,
}
use Rattle.build_incremental.proofs.Numbered.{
  numbered,
  content-numbered,
  in-numbered,
  has-above,
  Kept,
  kept_part,
  acts_in,
  acts-more,
  acts-segments,
  next-new,
}
use Rattle.build_incremental.proofs.Pairs.{found-none, ended-older, Once, Apart, apart-append}
use Rattle.build_incremental.proofs.Joined.{Nobody, Pair, compose, no-own-w, no-own-c}
use Rattle.build_incremental.proofs.Moves.{
  apart-left,
  apart-right,
  seen-append,
  alike-over,
  Went,
  Midway,
  IsFree,
}

-- ---- tests on the run at hand

if-same : {X : Type 0} (r s : RunId) (older : Option X) (x y : X) →
    this_or (same_run r s) older x ≡ Some y → older ≡ None → (r ≡ s) × (x ≡ y)
if-same r s older x y h n = go (same_run r s) refl h
  where
    go : (t : Bool) → same_run r s ≡ t → this_or t older x ≡ Some y → (r ≡ s) × (x ≡ y)
    go true e h = (same_run-true r s e, cc)
    go false e h = absurd (none-some older n h)

same-this : {X : Type 0} (r s : RunId) (older : Option X) (x : X) → r ≡ s →
    this_or (same_run r s) older x ≡ Some x
same-this r s older x e = ap (λ t. this_or t older x) (same_run-eq r s e)

pub numbered-record : (r s : RunId) (acts : List Act) → record_of (numbered r acts) s ≡ None
numbered-record r s [] = refl
numbered-record r s (act ∷ acts) = numbered-record r s acts

numbered-end : (r s : RunId) (acts : List Act) → has (end_of s) (numbered r acts) ≡ false
numbered-end r s acts = had-none (numbered r acts) s (numbered-record r s acts)

numbered-once : (r : RunId) (acts : List Act) → Once (numbered r acts)
numbered-once r [] = tt
numbered-once r (act ∷ acts) = (
  has-above r acts (length acts) (omega-self (length acts)),
  numbered-once r acts,
)
  where
    omega-self : (n : ℕ) → n ≤ n
    omega-self n = omega arith

numbered-own : (r : RunId) (acts : List Act) → own r (numbered r acts) ≡ numbered r acts
numbered-own r [] = refl
numbered-own r (act ∷ acts) = ap (λ t. front_if t (acted r (length acts) act)
    (own r (numbered r acts))) (same_run-refl r)
    ∙ ap (λ l. acted r (length acts) act ∷ l) (numbered-own r acts)

numbered-marks : (r : RunId) (acts : List Act) (s : Mark) → Has s (numbered r acts) →
    (n : ℕ) × (s ≡ act_of r n)
numbered-marks r [] s h = absurd (cc)
numbered-marks r (act ∷ acts) s h = elim (or_cases (same_mark (act_of r (length acts)) s)
    (has s (numbered r acts)) h) [
      | inl e ↦ (length acts, sym (same_mark-true (act_of r (length acts)) s e))
      | inr g ↦ numbered-marks r acts s g
    ]

module _ (files : List ℕ → Option (List ℕ)) (W : List ℕ → Type 0) (D : RunId → Record →
    Type 0) where
  -- ---- it ends

  module _ (r : RunId) (first m : Record) {N L : Journal} (pair : Pair D (λ s. r ≡ s) N L)
      (begun : record_of L r ≡ None) (mine_c : own r L ≡ acts_in r m.segments)
      (mine_w : Kept r (acts_in r m.segments) (own r N)) (d : D r m)
      (alike : AlikeRecords first m) where
    begun-w : record_of N r ≡ None
    begun-w = found-none (record_of N r) (record_of L r) (pair.same_ends r) begun

    parts : (s : RunId) (x : Record) → this_or (same_run r s) (record_of L s) m ≡ Some x →
        ((r ≡ s) × (m ≡ x)) ⊎ (record_of L s ≡ Some x)
    parts s x h = go (same_run r s) refl h
      where
        go : (t : Bool) → same_run r s ≡ t → this_or t (record_of L s) m ≡ Some x →
            ((r ≡ s) × (m ≡ x)) ⊎ (record_of L s ≡ Some x)
        go true e h = inl (same_run-true r s e, cc)
        go false e h = inr h

    ended-all : (n : Record) (j : Journal) → ((s : RunId) (k : ℕ) (act : Act) →
        In (acted s k act) j → HasEnded s j ⊎ (r ≡ s)) → (s : RunId) (k : ℕ) (act : Act) →
        In (acted s k act) (ended r n ∷ j) → HasEnded s (ended r n ∷ j) ⊎ ⊥
    ended-all n j by s k act (inl e) = absurd (cc)
    ended-all n j by s k act (inr i) = elim (by s k act i) [
      | inl h ↦ inl (ended-older s (ended r n ∷ []) j h)
      | inr e ↦ inl (n, same-this r s (record_of j s) n e)
    ]

    pub closed : Pair D Nobody (ended r first ∷ N) (ended r m ∷ L)
    closed = record {
      once_w = (had-none N r begun-w, pair.once_w);
      once_c = (had-none L r begun, pair.once_c);
      same_ends = λ s. ends s (same_run r s) (pair.same_ends s);
      by_w = ended-all first N pair.by_w;
      by_c = ended-all m L pair.by_c;
      made = λ s x h. elim (parts s x h) [
        | inl e ↦ subst (λ z. D z x) e.0 (subst (D r) e.1 d)
        | inr g ↦ pair.made s x g
      ];
      own_c = λ s x h. elim (parts s x h) [
        | inl e ↦ subst (λ z. own z L ≡ acts_in z x.segments) e.0
            (subst (λ (z : Record). own r L ≡ acts_in r z.segments) e.1 mine_c)
        | inr g ↦ pair.own_c s x g
      ];
      own_w = λ s x h. elim (parts s x h) [
        | inl e ↦ subst (λ z. Kept z (acts_in z x.segments)
            (own z N)) e.0 (subst (λ (z : Record). Kept r (acts_in r z.segments)
            (own r N)) e.1 mine_w)
        | inr g ↦ pair.own_w s x g
      ];
    }
      where
        ends : (s : RunId) (t : Bool) → AlikeFound (record_of N s) (record_of L s) →
            AlikeFound (this_or t (record_of N s) first) (this_or t (record_of L s) m)
        ends s true f = alike
        ends s false f = f

  -- the journals then
  pub went-closed : (r : RunId) (path : List RunId) (first m : Record) {N L j k i l : Journal} →
      (pair : Pair D (λ s. r ≡ s) N L) → i ≡ N ++ j → l ≡ L ++ k → Apart N j → Apart L k →
      IsFree files W D r path j → IsFree files W D r path k →
      ((s : RunId) → In s (r ∷ path) → record_of L s ≡ None) → ¬ In r path →
      own r L ≡ acts_in r m.segments → Kept r (acts_in r m.segments) (own r N) → D r m →
      AlikeRecords first m →
      AlikeJournals files W j k → AlikeJournals files W i l →
      Went files W D path j k (add i (ended r first)) (add l (ended r m))
  went-closed r path first m {N} {L} {j} {k} {i}
      {l} pair wi ci nw nc fw fc outside out mine_c mine_w d alike base now =
      let begun : record_of L r ≡ None = outside r (inl refl) in
      let none-n : record_of N r ≡ None = found-none (record_of N r) (record_of L r)
      (pair.same_ends r) begun in
      let w : add i (ended r first) ≡ (ended r first ∷ N) ++ j =
      add_new i (ended r first) (had-none i r (ap (λ x. record_of x r) wi
      ∙ (record-append N j r ∙ (ap (λ z. option_or z (record_of j r)) none-n ∙ fw.ends))))
      ∙ ap (λ x. ended r first ∷ x) wi in
      let c : add l (ended r m) ≡ (ended r m ∷ L) ++ k =
      add_new l (ended r m) (had-none l r (ap (λ x. record_of x r) ci
      ∙ (record-append L k r ∙ (ap (λ z. option_or z (record_of k r)) begun ∙ fc.ends))))
      ∙ ap (λ x. ended r m ∷ x) ci in
      let whole = closed r first m pair begun mine_c mine_w d alike in
      record {
        N = ended r first ∷ N;
        L = ended r m ∷ L;
        w_is = w;
        c_is = c;
        pair = whole;
        new_w = in-front (ended r first) N j (had-none j r fw.ends) nw;
        new_c = in-front (ended r m) L k (had-none k r fc.ends) nc;
        outside = λ s x. apart-run s x (outside s (inr x));
        alike = subst (λ x. AlikeJournals files W x (add l (ended r m))) (sym w)
            (subst (AlikeJournals files W ((ended r first ∷ N) ++ j)) (sym c)
            (alike-over files W D whole base (λ p. sym (seen-append files W N j p)
            ∙ (sym (ap (λ x. seen files x p) wi) ∙ (now.same p
            ∙ (ap (λ x. seen files x p) ci ∙ seen-append files W L k p))))
            (λ s n act u. elim u [
              | inl e ↦ absurd (cc)
              | inr h ↦ now.only s n act (subst (In (acted s n act)) (sym wi)
                  (in-left (acted s n act) N j h))
            ])));
      }
    where
      in-front : (e : Entry) (a b : Journal) → has (mark e) b ≡ false → Apart a b → Apart (e ∷ a) b
      in-front e a b h p s g = elim (or_cases (same_mark (mark e) s)
          (has s a) g) [
            | inl x ↦ subst (λ z. has z b ≡ false) (same_mark-true (mark e) s x) h
            | inr x ↦ p s x
          ]

      apart-run : (s : RunId) → In s path → record_of L s ≡ None →
          this_or (same_run r s) (record_of L s) m ≡ None
      apart-run s x n = elim (tells (same_run r s)) [
        | inl t ↦ absurd (out (subst (λ z. In z path) (sym (same_run-true r s t)) x))
        | inr t ↦ ap (λ z. this_or z (record_of L s) m) t ∙ n
      ]

  -- ---- its acts are those of a part and of the whole

  pub numbered-pair : (r : RunId) (acts wholes : List Act) →
      Pair D (λ s. r ≡ s) (numbered r acts) (numbered r wholes)
  numbered-pair r acts wholes = record {
    once_w = numbered-once r acts;
    once_c = numbered-once r wholes;
    same_ends = λ s.
        subst (λ x. AlikeFound x (record_of (numbered r wholes) s)) (sym (numbered-record r s acts))
        (subst (AlikeFound None) (sym (numbered-record r s wholes)) tt);
    by_w = λ s n act i. inr (sym (in-numbered r s acts n act i).0);
    by_c = λ s n act i. inr (sym (in-numbered r s wholes n act i).0);
    made = λ s m e. absurd (none-some (record_of (numbered r wholes) s)
        (numbered-record r s wholes) e);
    own_c = λ s m e. absurd (none-some (record_of (numbered r wholes) s)
        (numbered-record r s wholes) e);
    own_w = λ s m e. absurd (none-some (record_of (numbered r wholes) s)
        (numbered-record r s wholes) e);
  }

  numbered-apart : (r : RunId) (acts : List Act) (j : Journal) →
      ((n : ℕ) → has (act_of r n) j ≡ false) → Apart (numbered r acts) j
  numbered-apart r acts j h s g = let x = numbered-marks r acts s g in
      subst (λ z. has z j ≡ false) (sym x.1) (h x.0)

  pub lacks-same : (j k : Journal) (acts wholes : List Act) → AlikeJournals files W j k →
      LacksOnly files j acts wholes → (path : List ℕ) →
      unwrap_or (last_bytes acts path) (seen files j path) ≡ unwrap_or (last_bytes wholes path)
      (seen files k path)
  lacks-same j k acts wholes a lacks path = elim (none-or-some (last_bytes acts path)) [
    | inl n ↦ ap (λ z. unwrap_or z (seen files j path)) n
        ∙ elim (none-or-some (last_bytes wholes path)) [
          | inl m ↦ a.same path ∙ sym (ap (λ z. unwrap_or z (seen files k path)) m)
          | inr s ↦ lacks.left_out path s.0 n s.1 ∙ sym
              (ap (λ z. unwrap_or z (seen files k path)) s.1)
        ]
    | inr s ↦ elim (lacks.acted path) [
      | inl n ↦ absurd (none-some (last_bytes acts path) n s.1)
      | inr e ↦ ap (λ z. unwrap_or z (seen files j path)) s.1
          ∙ sym (ap (λ z. unwrap_or z (seen files k path)) (sym e ∙ s.1))
    ]
  ]

  pub went-in-part : (r : RunId) (path : List RunId) (first m : Record) (acts wholes : List Act)
      (j k : Journal) → m.segments ≡ segments_of wholes → IsFree files W D r path j →
      IsFree files W D r path k → ¬ In r path → D r m → AlikeRecords first m →
      AlikeJournals files W j k → LacksOnly files j acts wholes →
      ((act : Act) → In act acts → W (act_path act)) →
      Went files W D path j k (add (numbered r acts ++ j) (ended r first))
      (add (numbered r wholes ++ k) (ended r m))
  went-in-part r path first m acts wholes j k seg fw fc out d alike base lacks may =
      let whole : acts_in r m.segments ≡ numbered r wholes =
      ap (acts_in r) seg ∙ acts-segments r wholes in
      let pair = numbered-pair r acts wholes in
      went-closed r path first m pair refl refl (numbered-apart r acts j fw.acts)
      (numbered-apart r wholes k fc.acts) fw fc (λ s x. numbered-record r s wholes) out
      (numbered-own r wholes ∙ sym whole) (kept_part acts wholes
      (numbered-own r acts) whole lacks.acted) d alike base
      (alike-over files W D pair base (λ p. ap (λ z. unwrap_or z (seen files j p))
      (content-numbered r acts p) ∙ (lacks-same j k acts wholes base lacks p
      ∙ sym (ap (λ z. unwrap_or z (seen files k p)) (content-numbered r wholes p))))
      (λ s n act i. may act (in-numbered r s acts n act i).1))

  -- ---- it goes on step by step

  module _ (r : RunId) (path : List RunId) (segments : List Segment) {j k i l : Journal}
      (fw : IsFree files W D r path j) (fc : IsFree files W D r path k)
      (base : AlikeJournals files W j k) (a : Midway files W D r path segments j k i l) where
    number-new : (N j i : Journal) → i ≡ N ++ j → own r N ≡ acts_in r segments →
        IsFree files W D r path j → has (act_of r (length segments)) i ≡ false
    number-new N j i e mine f =
        ap (has (act_of r (length segments))) e
        ∙ (has-append (act_of r (length segments)) N j
        ∙ (ap (λ b. has (act_of r (length segments)) N || b) (f.acts (length segments))
        ∙ (ap (λ b. b || false) (sym (own-marks r (length segments) N)
        ∙ (ap (has (act_of r (length segments))) mine ∙ next-new r segments)))))

    pub acted-w : (act : Act) → add i (acted r (length segments) act)
        ≡ acted r (length segments) act ∷ i
    acted-w act = add_new i (acted r (length segments) act) (number-new a.N j i a.w_is a.mine_w fw)

    pub acted-c : (act : Act) → add l (acted r (length segments) act)
        ≡ acted r (length segments) act ∷ l
    acted-c act = add_new l (acted r (length segments) act) (number-new a.L k l a.c_is a.mine_c fc)

    in-own-front : (N : Journal) (act : Act) → own r N ≡ acts_in r segments →
        own r (acted r (length segments) act ∷ N) ≡ acts_in r (segments ++ File act ∷ [])
    in-own-front N act mine =
        ap (λ t. front_if t (acted r (length segments) act) (own r N)) (same_run-refl r)
        ∙ (ap (λ x. acted r (length segments) act ∷ x) mine ∙ sym (acts-more r segments act))

    -- a run that has ended is another one
    others-own : (s : RunId) (m : Record) (act : Act) (N : Journal) → record_of a.L s ≡ Some m →
        own s (acted r (length segments) act ∷ N) ≡ own s N
    others-own s m act N e = elim (tells (same_run r s)) [
      | inl t ↦ absurd (none-some (record_of a.L s) (a.outside s (inl (same_run-true r s t))) e)
      | inr t ↦ ap (λ z. front_if z (acted r (length segments) act) (own s N)) t
    ]

    new-in-front : (N j : Journal) (act : Act) → IsFree files W D r path j → Apart N j →
        Apart (acted r (length segments) act ∷ N) j
    new-in-front N j act f p s g = elim (or_cases (same_mark (act_of r (length segments)) s)
        (has s N) g) [
          | inl x ↦ subst (λ z. has z j ≡ false) (same_mark-true (act_of r (length segments)) s x)
              (f.acts (length segments))
          | inr x ↦ p s x
        ]

    by-front : (act : Act) (N : Journal) → ((s : RunId) (n : ℕ) (p : Act) → In (acted s n p) N →
        HasEnded s N ⊎ (r ≡ s)) → (s : RunId) (n : ℕ) (p : Act) →
        In (acted s n p) (acted r (length segments) act ∷ N) →
        HasEnded s (acted r (length segments) act ∷ N) ⊎ (r ≡ s)
    by-front act N by s n p (inl e) = inr (cc)
    by-front act N by s n p (inr x) = by s n p x

    pub acts-on : (act : Act) → W (act_path act) → Midway files W D r path (segments ++ File act
        ∷ []) j k (acted r (length segments) act ∷ i) (acted r (length segments) act ∷ l)
    acts-on act may =
        let pair : Pair D (λ s. r ≡ s) (acted r (length segments) act ∷ a.N)
        (acted r (length segments) act ∷ a.L) = record {
          once_w = (own-new a.N j i a.w_is (number-new a.N j i a.w_is a.mine_w fw), a.pair.once_w);
          once_c = (own-new a.L k l a.c_is (number-new a.L k l a.c_is a.mine_c fc), a.pair.once_c);
          same_ends = a.pair.same_ends;
          by_w = by-front act a.N a.pair.by_w;
          by_c = by-front act a.L a.pair.by_c;
          made = a.pair.made;
          own_c = λ s m e. others-own s m act a.L e ∙ a.pair.own_c s m e;
          own_w = λ s m e. subst (Kept s (acts_in s m.segments)) (sym (others-own s m act a.N e))
              (a.pair.own_w s m e);
        } in
        record {
          N = acted r (length segments) act ∷ a.N;
          L = acted r (length segments) act ∷ a.L;
          w_is = ap (λ x. acted r (length segments) act ∷ x) a.w_is;
          c_is = ap (λ x. acted r (length segments) act ∷ x) a.c_is;
          pair = pair;
          new_w = new-in-front a.N j act fw a.new_w;
          new_c = new-in-front a.L k act fc a.new_c;
          outside = a.outside;
          mine_w = in-own-front a.N act a.mine_w;
          mine_c = in-own-front a.L act a.mine_c;
          alike = record {
            same = λ p. same-in-front p (bytes_eq (act_path act) p) (a.alike.same p);
            records = a.alike.records;
            only = λ s n p u. elim u [
              | inl e ↦ subst (λ (z : Act). W (act_path z)) (let q : act ≡ p =
                  cc in q) may
              | inr h ↦ a.alike.only s n p h
            ];
          };
        }
      where
        own-new : (N j i : Journal) → i ≡ N ++ j → has (act_of r (length segments)) i ≡ false →
            has (act_of r (length segments)) N ≡ false
        own-new N j i e h = (or_neither (has (act_of r (length segments)) N)
            (has (act_of r (length segments)) j) (sym
            (has-append (act_of r (length segments)) N j)
            ∙ (sym (ap (has (act_of r (length segments))) e) ∙ h))).0

        same-in-front : (p : List ℕ) (t : Bool) → seen files i p ≡ seen files l p →
            unwrap_or (this_or t (content i p) (act_bytes act))
            (files p) ≡ unwrap_or (this_or t (content l p) (act_bytes act)) (files p)
        same-in-front p true h = refl
        same-in-front p false h = h

    -- its calls went
    pub calls-on : {i' l' : Journal} (more : List Segment) →
        acts_in r more ≡ acts_in r segments → Went files W D (r ∷ path) i l i' l' →
        Midway files W D r path more j k i' l'
    calls-on {i'} {l'} more same b =
        let aw : Apart b.N (a.N ++ j) = subst (Apart b.N) a.w_is b.new_w in
        let ac : Apart b.L (a.L ++ k) = subst (Apart b.L) a.c_is b.new_c in
        let none-c : record_of b.L r ≡ None = b.outside r (inl refl) in
        record {
          N = b.N ++ a.N;
          L = b.L ++ a.L;
          w_is = b.w_is ∙ (ap (λ x. b.N ++ x) a.w_is ∙ sym (append_assoc b.N a.N j));
          c_is = b.c_is ∙ (ap (λ x. b.L ++ x) a.c_is ∙ sym (append_assoc b.L a.L k));
          pair = compose D a.pair b.pair (apart-left b.N a.N j aw) (apart-left b.L a.L k ac)
              (λ s e. subst (λ z. record_of b.L z ≡ None) e none-c);
          new_w = apart-append b.N a.N j (apart-right b.N a.N j aw) a.new_w;
          new_c = apart-append b.L a.L k (apart-right b.L a.L k ac) a.new_c;
          outside = λ s x. record-append b.L a.L s ∙ (ap (λ z. option_or z (record_of a.L s))
              (b.outside s x) ∙ a.outside s x);
          mine_w = own-append r b.N a.N ∙ (ap (λ x. x ++ own r a.N)
              (no-own-w D b.pair r none-c (λ x. x)) ∙ (a.mine_w ∙ sym same));
          mine_c = own-append r b.L a.L ∙ (ap (λ x. x ++ own r a.L)
              (no-own-c D b.pair r none-c (λ x. x)) ∙ (a.mine_c ∙ sym same));
          alike = b.alike;
        }
