-- Moves of two requests that go side by side: from two journals to two others.
use Rattle.std.proofs.Common.{
  ◌≡◌,
  ℕ,
  true,
  false,
  ◌⊎◌,
  inl,
  inr,
  List,
  [],
  ◌∷◌,
  ◌++◌,
  Option,
  None,
  Some,
  refl,
  ap,
  sym,
  ◌∙◌,
  subst,
  append_assoc,
}
use Rattle.std.specs.Prelude.{unwrap_or}
use Rattle.std.specs.Option.{option_or}
use Rattle.std.specs.Str.{bytes_eq}
use Rattle.std.proofs.lemmas.Slice.Eq.{bytes_eq-Decides}
use Rattle.msb_values.specs.Acts.{act_path}
use Rattle.msb_values.specs.declared.act.Act.{Act}
use Rattle.result_cache.specs.declared.run.RunId.{RunId}
use Rattle.result_cache.specs.declared.record.Record.{Record}
use Rattle.result_cache.specs.declared.record.Segment.{Segment}
use Rattle.result_cache.specs.Lists.{In}
use Rattle.result_cache.specs.Journal.{Journal, acted, act_of, has, merge, record_of, content}
use Rattle.result_cache.proofs.RunTests.{tells, or_neither}
use Rattle.build_meaning.proofs.MeaningDerived.{in-left}
use Rattle.build_incremental.specs.Joins.{IsOfOneRun}
use Rattle.build_incremental.specs.Alike.{seen, AlikeFound, AlikeJournals}
use Rattle.build_incremental.proofs.Entries.{
  none-some,
  content-append,
  record-append,
  has-append,
  in-parts,
  in-marked,
  marked-act,
  HasEnded,
  own,
}
use Rattle.build_incremental.proofs.Numbered.{fresh, in-fresh, acts_in}
use Rattle.build_incremental.proofs.Pairs.{
  alike-or,
  ended-newer,
  ended-older,
  Apart,
  apart-append,
  fresh-has,
  record-fresh,
  merge-fresh,
}
use Rattle.build_incremental.proofs.Joined.{Nobody, Pair, nothing, compose, joined, joined-seen}

-- runs that have acts have ended, or are open
abbrev pub Known : List RunId → Journal → Type 0
Known path j = (r : RunId) (n : ℕ) (act : Act) → In (acted r n act) j → HasEnded r j ⊎ In r path

pub known-nothing : (path : List RunId) → Known path []
known-nothing path r n act i = absurd i

pub known-deeper : (s : RunId) (path : List RunId) (j : Journal) → Known path j → Known (s ∷ path) j
known-deeper s path j k r n act i = elim (k r n act i) [ inl x ↦ inl x | inr x ↦ inr (inr x) ]

pub known-over : (path : List RunId) (o : RunId → Type 0) (N j : Journal) →
    ((r : RunId) → o r → In r path) → ((r : RunId) (n : ℕ) (act : Act) → In (acted r n act) N →
    HasEnded r N ⊎ o r) → Known path j → Known path (N ++ j)
known-over path o N j f by k r n act i = elim (in-parts (acted r n act) N j i) [
  | inl h ↦ elim (by r n act h) [ inl s ↦ inl (ended-newer r N j s) | inr x ↦ inr (f r x) ]
  | inr h ↦ elim (k r n act h) [ inl s ↦ inl (ended-older r N j s) | inr x ↦ inr x ]
]

-- a run that is neither open nor over has no act
pub none-of : (path : List RunId) (j : Journal) (r : RunId) → Known path j → ¬ In r path →
    record_of j r ≡ None → (n : ℕ) → has (act_of r n) j ≡ false
none-of path j r k out e n = elim (tells (has (act_of r n) j)) [
  | inl h ↦
      let w = marked-act r n j h in
      elim (k r n w.0 w.1) [
        | inl s ↦ absurd (none-some (record_of j r) e s.1)
        | inr x ↦ absurd (out x)
      ]
  | inr h ↦ h
]

pub apart-left : (a b c : Journal) → Apart a (b ++ c) → Apart a b
apart-left a b c p s h = (or_neither (has s b) (has s c) (sym (has-append s b c) ∙ p s h)).0

pub apart-right : (a b c : Journal) → Apart a (b ++ c) → Apart a c
apart-right a b c p s h = (or_neither (has s b) (has s c) (sym (has-append s b c) ∙ p s h)).1

module _ (files : List ℕ → Option (List ℕ)) (W : List ℕ → Type 0) where
  or-else : {X : Type 0} (a b : Option X) (c : X) →
      unwrap_or (option_or a b) c ≡ unwrap_or a (unwrap_or b c)
  or-else None b c = refl
  or-else (Some x) b c = refl

  pub seen-append : (N j : Journal) (path : List ℕ) →
      seen files (N ++ j) path ≡ unwrap_or (content N path) (seen files j path)
  seen-append N j path = ap (λ o. unwrap_or o (files path)) (content-append N j path)
      ∙ or-else (content N path) (content j path) (files path)

  module _ (D : RunId → Record → Type 0) where
    -- what is put in front keeps journals alike, where contents stay equal
    pub alike-over : {o : RunId → Type 0} {N L j k : Journal} → Pair D o N L →
        AlikeJournals files W j k → ((path : List ℕ) →
        unwrap_or (content N path) (seen files j path) ≡ unwrap_or (content L path)
        (seen files k path)) →
        ((r : RunId) (n : ℕ) (act : Act) → In (acted r n act) N → W (act_path act)) →
        AlikeJournals files W (N ++ j) (L ++ k)
    alike-over {o} {N} {L} {j} {k} pair a same only = record {
      same = λ path. seen-append N j path ∙ (same path ∙ sym (seen-append L k path));
      records = λ r.
          subst (λ x. AlikeFound x (record_of (L ++ k) r)) (sym (record-append N j r))
          (subst (AlikeFound (option_or (record_of N r) (record_of j r)))
          (sym (record-append L k r))
          (alike-or (record_of N r) (record_of L r) (record_of j r) (record_of k r)
          (pair.same_ends r) (a.records r)));
      only = λ r n act i. elim (in-parts (acted r n act) N j i) [
        | inl h ↦ only r n act h
        | inr h ↦ a.only r n act h
      ];
    }

    -- a request, or several, went from these journals to those
    pub record Went (path : List RunId) (j k i l : Journal) : Type 0 where
      pub N : Journal
      pub L : Journal
      pub w_is : i ≡ N ++ j
      pub c_is : l ≡ L ++ k
      pub pair : Pair D Nobody N L
      pub new_w : Apart N j
      pub new_c : Apart L k
      pub outside : (r : RunId) → In r path → record_of L r ≡ None
      pub alike : AlikeJournals files W i l

    pub stays : (path : List RunId) (j k : Journal) → AlikeJournals files W j k → Went path j k j k
    stays path j k a = record {
      N = [];
      L = [];
      w_is = refl;
      c_is = refl;
      pair = nothing D;
      new_w = λ s h. absurd (cc);
      new_c = λ s h. absurd (cc);
      outside = λ r i. refl;
      alike = a;
    }

    module _ {path : List RunId} {j k i l : Journal} (a : Went path j k i l) where
      pub known-w : Known path j → Known path i
      known-w h = subst (Known path) (sym a.w_is)
          (known-over path Nobody a.N j (λ r x. absurd x) a.pair.by_w h)

      pub known-c : Known path k → Known path l
      known-c h = subst (Known path) (sym a.c_is)
          (known-over path Nobody a.L k (λ r x. absurd x) a.pair.by_c h)

      pub then-went : {i' l' : Journal} → Went path i l i' l' → Went path j k i' l'
      then-went {i'} {l'} b =
          let aw : Apart b.N (a.N ++ j) = subst (Apart b.N) a.w_is b.new_w in
          let ac : Apart b.L (a.L ++ k) = subst (Apart b.L) a.c_is b.new_c in
          record {
            N = b.N ++ a.N;
            L = b.L ++ a.L;
            w_is = b.w_is ∙ (ap (λ x. b.N ++ x) a.w_is ∙ sym (append_assoc b.N a.N j));
            c_is = b.c_is ∙ (ap (λ x. b.L ++ x) a.c_is ∙ sym (append_assoc b.L a.L k));
            pair = compose D a.pair b.pair (apart-left b.N a.N j aw) (apart-left b.L a.L k ac)
                (λ r x. absurd x);
            new_w = apart-append b.N a.N j (apart-right b.N a.N j aw) a.new_w;
            new_c = apart-append b.L a.L k (apart-right b.L a.L k ac) a.new_c;
            outside = λ r x. record-append b.L a.L r
                ∙ (ap (λ z. option_or z (record_of a.L r)) (b.outside r x) ∙ a.outside r x);
            alike = b.alike;
          }

      -- calls made at once
      pub join-went : ((r : RunId) (m n : Record) → D r m → D r n → m ≡ n) →
          AlikeJournals files W j k → {i' l' : Journal} → Went path j k i' l' → IsOfOneRun k l l' →
          Went path j k (merge i i') (merge l l')
      join-went one base {i'} {l'} b of_one =
          let w : merge i i' ≡ (fresh a.N b.N ++ a.N) ++ j =
          ap (λ x. merge x i') a.w_is ∙ (ap (λ x. merge (a.N ++ j) x) b.w_is
          ∙ merge-fresh a.N b.N j b.pair.once_w b.new_w) in
          let c : merge l l' ≡ (fresh a.L b.L ++ a.L) ++ k =
          ap (λ x. merge x l') a.c_is ∙ (ap (λ x. merge (a.L ++ k) x) b.c_is
          ∙ merge-fresh a.L b.L k b.pair.once_c b.new_c) in
          let pair = joined D one a.pair b.pair in
          let first : (p : List ℕ) → unwrap_or (content a.N p)
          (seen files j p) ≡ unwrap_or (content a.L p) (seen files k p) =
          λ p. sym (seen-append a.N j p) ∙ (sym (ap (λ x. seen files x p) a.w_is)
          ∙ (a.alike.same p ∙ (ap (λ x. seen files x p) a.c_is ∙ seen-append a.L k p))) in
          let second : (p : List ℕ) → unwrap_or (content b.N p)
          (seen files j p) ≡ unwrap_or (content b.L p) (seen files k p) =
          λ p. sym (seen-append b.N j p) ∙ (sym (ap (λ x. seen files x p) b.w_is)
          ∙ (b.alike.same p ∙ (ap (λ x. seen files x p) b.c_is ∙ seen-append b.L k p))) in
          let runs : (r s : RunId) (n m : ℕ) (x y : Act) (p : List ℕ) → In (acted r n x) a.L →
          In (acted s m y) b.L → bytes_eq (act_path x) p ≡ true →
          bytes_eq (act_path y) p ≡ true → r ≡ s =
          λ r s n m x y p u v t z. of_one p r s
          (record {
            number = n;
            act = x;
            there =
                subst (In (acted r n x)) (sym a.c_is) (in-left (acted r n x) a.L k u);
            since =
                a.new_c (act_of r n) (in-marked (acted r n x) a.L u);
            at =
                (bytes_eq-Decides (act_path x) p).0 t;
          })
          (record {
            number = m;
            act = y;
            there =
                subst (In (acted s m y)) (sym b.c_is) (in-left (acted s m y) b.L k v);
            since =
                b.new_c (act_of s m) (in-marked (acted s m y) b.L v);
            at =
                (bytes_eq-Decides (act_path y) p).0 z;
          }) in
          record {
            N = fresh a.N b.N ++ a.N;
            L = fresh a.L b.L ++ a.L;
            w_is = w;
            c_is = c;
            pair = pair;
            new_w = apart-append (fresh a.N b.N) a.N j
                (λ s h. b.new_w s (fresh-has s a.N b.N h).0) a.new_w;
            new_c = apart-append (fresh a.L b.L) a.L k
                (λ s h. b.new_c s (fresh-has s a.L b.L h).0) a.new_c;
            outside = λ r x. record-fresh a.L b.L r ∙ (ap (λ z. option_or z (record_of b.L r))
                (a.outside r x) ∙ b.outside r x);
            alike = subst (λ x. AlikeJournals files W x (merge l l')) (sym w)
                (subst (AlikeJournals files W ((fresh a.N b.N ++ a.N) ++ j)) (sym c)
                (alike-over pair base (λ p. joined-seen D one a.pair b.pair runs (seen files j p)
                (seen files k p) p (first p) (second p))
                (λ r n act u. elim (in-parts (acted r n act) (fresh a.N b.N) a.N u) [
                  | inl h ↦ b.alike.only r n act (subst (In (acted r n act)) (sym b.w_is)
                      (in-left (acted r n act) b.N j (in-fresh (acted r n act) a.N b.N h)))
                  | inr h ↦ a.alike.only r n act (subst (In (acted r n act)) (sym a.w_is)
                      (in-left (acted r n act) a.N j h))
                ])));
          }

    -- ---- a run that is open

    pub record Midway (r : RunId) (path : List RunId) (segments : List Segment)
        (j k i l : Journal) : Type 0 where
      pub N : Journal
      pub L : Journal
      pub w_is : i ≡ N ++ j
      pub c_is : l ≡ L ++ k
      pub pair : Pair D (λ s. r ≡ s) N L
      pub new_w : Apart N j
      pub new_c : Apart L k
      pub outside : (s : RunId) → In s (r ∷ path) → record_of L s ≡ None
      pub mine_w : own r N ≡ acts_in r segments
      pub mine_c : own r L ≡ acts_in r segments
      pub alike : AlikeJournals files W i l

    -- what the run began with has nothing of it
    pub record IsFree (r : RunId) (path : List RunId) (j : Journal) : Type 0 where
      pub known : Known path j
      pub acts : (n : ℕ) → has (act_of r n) j ≡ false
      pub ends : record_of j r ≡ None
