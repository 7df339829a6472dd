-- What two requests that go side by side put in front of their journals, one after the other, and
-- joined where calls were made at once.
use Rattle.std.proofs.Common.{
  ◌≡◌,
  ℕ,
  true,
  false,
  ◌⊎◌,
  inl,
  inr,
  List,
  [],
  ◌++◌,
  Option,
  None,
  Some,
  refl,
  ap,
  sym,
  ◌∙◌,
  subst,
  append-nil,
}
use Rattle.std.specs.Prelude.{unwrap_or}
use Rattle.std.specs.Option.{option_or}
use Rattle.std.specs.Str.{bytes_eq}
use Rattle.msb_values.specs.Acts.{act_path}
use Rattle.msb_values.specs.declared.act.Act.{Act}
use Rattle.result_cache.specs.declared.run.RunId.{RunId}
use Rattle.result_cache.specs.declared.record.Record.{Record}
use Rattle.result_cache.specs.Lists.{In}
use Rattle.result_cache.specs.Journal.{Journal, acted, act_of, has, record_of, content}
use Rattle.result_cache.proofs.RunTests.{tells, clash}
use Rattle.result_cache.proofs.JournalEntries.{Has}
use Rattle.build_incremental.specs.Alike.{AlikeFound}
use Rattle.build_incremental.proofs.Entries.{
  or-none,
  none-or-some,
  none-some,
  content-append,
  record-append,
  in-parts,
  in-marked,
  marked-act,
  HasEnded,
  content-there,
  there-content,
  nothing-content,
  own,
  own-append,
  in-own,
  own-in,
  own-none,
  content-own,
}
use Rattle.build_incremental.proofs.Numbered.{
  fresh,
  fresh-none,
  fresh-all,
  in-fresh,
  Kept,
  kept-content,
  kept-joined,
  acts_in,
}
use Rattle.build_incremental.proofs.Pairs.{
  found-second,
  found-none,
  alike-or,
  or-parts,
  or-ended,
  ended-newer,
  ended-older,
  Once,
  Apart,
  once-append,
  apart-ended,
  fresh-has,
  fresh-once,
  record-fresh,
  own-fresh,
  fresh-content,
}

abbrev pub Nobody : RunId → Type 0
Nobody r = ⊥

module _ (D : RunId → Record → Type 0) where
  -- Entries are there once. The same runs have ended in both, with records that are alike; those of
  -- the second are such as D says. Only runs that have ended, or are open, have acts. A run has in
  -- the second the acts that its record there tells of, and in the first what it keeps of these.
  pub record Pair (o : RunId → Type 0) (N L : Journal) : Type 0 where
    pub once_w : Once N
    pub once_c : Once L
    pub same_ends : (r : RunId) → AlikeFound (record_of N r) (record_of L r)
    pub by_w : (r : RunId) (n : ℕ) (act : Act) → In (acted r n act) N → HasEnded r N ⊎ o r
    pub by_c : (r : RunId) (n : ℕ) (act : Act) → In (acted r n act) L → HasEnded r L ⊎ o r
    pub made : (r : RunId) (m : Record) → record_of L r ≡ Some m → D r m
    pub own_c : (r : RunId) (m : Record) → record_of L r ≡ Some m → own r L ≡ acts_in r m.segments
    pub own_w : (r : RunId) (m : Record) → record_of L r ≡ Some m →
        Kept r (acts_in r m.segments) (own r N)

  pub nothing : Pair Nobody [] []
  nothing = record {
    once_w = tt;
    once_c = tt;
    same_ends = λ r. tt;
    by_w = λ r n act i. absurd i;
    by_c = λ r n act i. absurd i;
    made = λ r m e. absurd (cc);
    own_c = λ r m e. absurd (cc);
    own_w = λ r m e. absurd (cc);
  }

  module _ {o : RunId → Type 0} {N L : Journal} (pair : Pair o N L) where
    pub no-own-c : (r : RunId) → record_of L r ≡ None → (o r → ⊥) → own r L ≡ []
    no-own-c r e n = own-none r L (λ k act i. elim (pair.by_c r k act i)
        [ inl s ↦ none-some (record_of L r) e s.1 | inr x ↦ n x ])

    pub no-own-w : (r : RunId) → record_of L r ≡ None → (o r → ⊥) → own r N ≡ []
    no-own-w r e n =
        own-none r N (λ k act i. elim (pair.by_w r k act i) [
          | inl s ↦ none-some (record_of N r)
              (found-none (record_of N r) (record_of L r) (pair.same_ends r) e) s.1
          | inr x ↦ n x
        ])

    -- on what a run that has ended has acted in the first, it has acted in the second
    pub acted-too : (r : RunId) (m : Record) → record_of L r ≡ Some m →
        (n : ℕ) (act : Act) (path : List ℕ) → In (acted r n act) N →
        bytes_eq (act_path act) path ≡ true →
        (k : ℕ) × (p : Act) × In (acted r k p) L × (bytes_eq (act_path p) path ≡ true)
    acted-too r m e n act path i t =
        let some = there-content (own r N) path r n act (in-own r N n act i) t in
        elim (kept-content (pair.own_w r m e) path) [
          | inl none ↦ absurd (none-some (content (own r N) path) none some.1)
          | inr same ↦
              let there : content (own r L) path ≡ Some some.0 =
              ap (λ j. content j path) (pair.own_c r m e) ∙ (sym same ∙ some.1) in
              let x = content-there (own r L) path some.0 there in
              let y = own-in r x.0 L x.1 x.2 x.3 in
              (x.1, x.2, subst (λ s. In (acted s x.1 x.2) L) y.1 y.0, x.4)
        ]

  -- one after the other
  pub compose : {o : RunId → Type 0} {N L N' L' : Journal} → Pair o N L → Pair Nobody N' L' →
      Apart N' N → Apart L' L → ((r : RunId) → o r → record_of L' r ≡ None) →
      Pair o (N' ++ N) (L' ++ L)
  compose {o} {N} {L} {N'} {L'} p q aw ac opened = record {
    once_w = once-append N' N q.once_w p.once_w aw;
    once_c = once-append L' L q.once_c p.once_c ac;
    same_ends = λ r.
        subst (λ x. AlikeFound x (record_of (L' ++ L) r)) (sym (record-append N' N r))
        (subst (AlikeFound (option_or (record_of N' r) (record_of N r)))
        (sym (record-append L' L r))
        (alike-or (record_of N' r) (record_of L' r) (record_of N r) (record_of L r) (q.same_ends r)
        (p.same_ends r)));
    by_w = λ r n act i. elim (in-parts (acted r n act) N' N i) [
      | inl h ↦ elim (q.by_w r n act h) [ inl s ↦ inl (ended-newer r N' N s) | inr x ↦ absurd x ]
      | inr h ↦ elim (p.by_w r n act h) [ inl s ↦ inl (ended-older r N' N s) | inr x ↦ inr x ]
    ];
    by_c = λ r n act i. elim (in-parts (acted r n act) L' L i) [
      | inl h ↦ elim (q.by_c r n act h) [ inl s ↦ inl (ended-newer r L' L s) | inr x ↦ absurd x ]
      | inr h ↦ elim (p.by_c r n act h) [ inl s ↦ inl (ended-older r L' L s) | inr x ↦ inr x ]
    ];
    made = λ r m e. elim (parts r m e) [ inl h ↦ q.made r m h | inr h ↦ p.made r m h.1 ];
    own_c = λ r m e. own-append r L' L ∙ elim (parts r m e) [
      | inl h ↦ ap (λ j. own r L' ++ j) (old-c r m h) ∙ (append-nil (own r L') ∙ q.own_c r m h)
      | inr h ↦ ap (λ j. j ++ own r L) (no-own-c q r h.0 (λ x. x)) ∙ p.own_c r m h.1
    ];
    own_w = λ r m e. subst (Kept r (acts_in r m.segments)) (sym (own-append r N' N))
        (elim (parts r m e) [
          | inl h ↦ subst (Kept r (acts_in r m.segments))
              (sym (ap (λ j. own r N' ++ j) (old-w r m h) ∙ append-nil (own r N'))) (q.own_w r m h)
          | inr h ↦ subst (Kept r (acts_in r m.segments))
              (sym (ap (λ j. j ++ own r N) (no-own-w q r h.0 (λ x. x)))) (p.own_w r m h.1)
        ]);
  }
    where
      parts : (r : RunId) (m : Record) → record_of (L' ++ L) r ≡ Some m →
          (record_of L' r ≡ Some m) ⊎ ((record_of L' r ≡ None) × (record_of L r ≡ Some m))
      parts r m e = or-parts (record_of L' r) (record_of L r) m (sym (record-append L' L r) ∙ e)

      open-not : (r : RunId) (m : Record) → record_of L' r ≡ Some m → o r → ⊥
      open-not r m h x = none-some (record_of L' r) (opened r x) h

      old-c : (r : RunId) (m : Record) → record_of L' r ≡ Some m → own r L ≡ []
      old-c r m h = no-own-c p r (apart-ended r L' L ac (m, h)) (open-not r m h)

      old-w : (r : RunId) (m : Record) → record_of L' r ≡ Some m → own r N ≡ []
      old-w r m h = no-own-w p r (apart-ended r L' L ac (m, h)) (open-not r m h)

  -- ---- calls made at once

  module _ (one : (r : RunId) (m n : Record) → D r m → D r n → m ≡ n) {N L N' L' : Journal}
      (p : Pair Nobody N L) (q : Pair Nobody N' L') where
    ended-w : (r : RunId) (n : ℕ) (act : Act) → In (acted r n act) N →
        (m : Record) × (record_of L r ≡ Some m)
    ended-w r n act i = elim (p.by_w r n act i) [
      | inl s ↦ (let x =
          found-second (record_of N r) (record_of L r) (p.same_ends r) s.0 s.1 in (x.0, x.1))
      | inr x ↦ absurd x
    ]

    ended-w' : (r : RunId) (n : ℕ) (act : Act) → In (acted r n act) N' →
        (m : Record) × (record_of L' r ≡ Some m)
    ended-w' r n act i = elim (q.by_w r n act i) [
      | inl s ↦ (let x =
          found-second (record_of N' r) (record_of L' r) (q.same_ends r) s.0 s.1 in (x.0, x.1))
      | inr x ↦ absurd x
    ]

    ended-c : (r : RunId) (n : ℕ) (act : Act) → In (acted r n act) L → HasEnded r L
    ended-c r n act i = elim (p.by_c r n act i) [ inl s ↦ s | inr x ↦ absurd x ]

    ended-c' : (r : RunId) (n : ℕ) (act : Act) → In (acted r n act) L' → HasEnded r L'
    ended-c' r n act i = elim (q.by_c r n act i) [ inl s ↦ s | inr x ↦ absurd x ]

    -- a run that has ended in both has the same acts in both
    same-own : (r : RunId) (m n : Record) → record_of L r ≡ Some m → record_of L' r ≡ Some n →
        own r L ≡ own r L'
    same-own r m n e f = p.own_c r m e ∙ (ap (λ (x : Record). acts_in r x.segments)
        (one r m n (p.made r m e) (q.made r n f)) ∙ sym (q.own_c r n f))

    pub joined : Pair Nobody (fresh N N' ++ N) (fresh L L' ++ L)
    joined = record {
      once_w = once-append (fresh N N') N (fresh-once N N' q.once_w) p.once_w
          (λ s h. (fresh-has s N N' h).1);
      once_c = once-append (fresh L L') L (fresh-once L L' q.once_c) p.once_c
          (λ s h. (fresh-has s L L' h).1);
      same_ends = λ r.
          subst (λ x. AlikeFound x (record_of (fresh L L' ++ L) r)) (sym (record-fresh N N' r))
          (subst (AlikeFound (option_or (record_of N r) (record_of N' r)))
          (sym (record-fresh L L' r))
          (alike-or (record_of N r) (record_of L r) (record_of N' r) (record_of L' r)
          (p.same_ends r) (q.same_ends r)));
      by_w = λ r n act i. elim (in-parts (acted r n act) (fresh N N') N i) [
        | inl h ↦ elim (q.by_w r n act (in-fresh (acted r n act) N N' h)) [
          | inl s ↦ inl (let x = or-ended (record_of N r) (record_of N' r) s in
              (x.0, record-fresh N N' r ∙ x.1))
          | inr x ↦ inr x
        ]
        | inr h ↦ elim (p.by_w r n act h) [
          | inl s ↦ inl (ended-older r (fresh N N') N s)
          | inr x ↦ inr x
        ]
      ];
      by_c = λ r n act i. elim (in-parts (acted r n act) (fresh L L') L i) [
        | inl h ↦ elim (q.by_c r n act (in-fresh (acted r n act) L L' h)) [
          | inl s ↦ inl (let x = or-ended (record_of L r) (record_of L' r) s in
              (x.0, record-fresh L L' r ∙ x.1))
          | inr x ↦ inr x
        ]
        | inr h ↦ elim (p.by_c r n act h) [
          | inl s ↦ inl (ended-older r (fresh L L') L s)
          | inr x ↦ inr x
        ]
      ];
      made = λ r m e. elim (parts r m e) [ inl h ↦ p.made r m h | inr h ↦ q.made r m h.1 ];
      own_c = λ r m e. own-append r (fresh L L') L
          ∙ (ap (λ j. j ++ own r L) (own-fresh r L L') ∙ elim (parts r m e) [
            | inl h ↦ elim (none-or-some (record_of L' r)) [
              | inl n ↦ ap (λ j. fresh (own r L) j ++ own r L) (no-own-c q r n (λ x. x))
                  ∙ p.own_c r m h
              | inr s ↦ ap (λ j. j ++ own r L) (fresh-none (own r L) (own r L')
                  (λ t g. subst (λ j. Has t j) (sym (same-own r m s.0 h s.1)) g)) ∙ p.own_c r m h
            ]
            | inr h ↦ alone-c r m h.0 h.1
          ]);
      own_w = λ r m e. subst (Kept r (acts_in r m.segments))
          (sym (own-append r (fresh N N') N ∙ ap (λ j. j ++ own r N) (own-fresh r N N')))
          (elim (parts r m e) [
            | inl h ↦ elim (none-or-some (record_of L' r)) [
              | inl n ↦ subst (Kept r (acts_in r m.segments))
                  (sym (ap (λ j. fresh (own r N) j ++ own r N) (no-own-w q r n (λ x. x))))
                  (p.own_w r m h)
              | inr s ↦
                  let same : s.0 ≡ m = one r s.0 m (q.made r s.0 s.1) (p.made r m h) in
                  kept-joined (p.own_w r m h)
                  (subst (λ (x : Record). Kept r (acts_in r x.segments)
                  (own r N')) same (q.own_w r s.0 s.1))
            ]
            | inr h ↦
                let none = no-own-w p r h.0 (λ x. x) in
                subst (Kept r (acts_in r m.segments)) (sym (ap (λ j. fresh j (own r N') ++ j) none
                ∙ (append-nil (fresh [] (own r N')) ∙ fresh-all [] (own r N') (λ s g. refl))))
                (q.own_w r m h.1)
          ]);
    }
      where
        parts : (r : RunId) (m : Record) → record_of (fresh L L' ++ L) r ≡ Some m →
            (record_of L r ≡ Some m) ⊎ ((record_of L r ≡ None) × (record_of L' r ≡ Some m))
        parts r m e = or-parts (record_of L r) (record_of L' r) m (sym (record-fresh L L' r) ∙ e)

        alone-c : (r : RunId) (m : Record) → record_of L r ≡ None → record_of L' r ≡ Some m →
            fresh (own r L) (own r L') ++ own r L ≡ acts_in r m.segments
        alone-c r m n h =
            ap (λ j. fresh j (own r L') ++ j) (no-own-c p r n (λ x. x))
            ∙ (append-nil (fresh [] (own r L')) ∙ (fresh-all [] (own r L') (λ s g. refl)
            ∙ q.own_c r m h))

    -- where both have acts on a path, they are of one run
    module _ (of_one : (r s : RunId) (n k : ℕ) (a b : Act) (path : List ℕ) → In (acted r n a) L →
        In (acted s k b) L' → bytes_eq (act_path a) path ≡ true →
        bytes_eq (act_path b) path ≡ true → r ≡ s)
        (b c : Option (List ℕ)) (path : List ℕ) (first : unwrap_or (content N path) b
        ≡ unwrap_or (content L path) c) (second : unwrap_or (content N' path) b
        ≡ unwrap_or (content L' path) c) where
      none-w : content L path ≡ None → content N path ≡ None
      none-w e = nothing-content N path (λ r n act i t.
          let s = ended-w r n act i in
          let x = acted-too p r s.0 s.1 n act path i t in
          let y = there-content L path r x.0 x.1 x.2 x.3 in
          none-some (content L path) e y.1)

      none-w' : content L' path ≡ None → content N' path ≡ None
      none-w' e = nothing-content N' path (λ r n act i t.
          let s = ended-w' r n act i in
          let x = acted-too q r s.0 s.1 n act path i t in
          let y = there-content L' path r x.0 x.1 x.2 x.3 in
          none-some (content L' path) e y.1)

      none-fresh : (a d : Journal) → content d path ≡ None → content (fresh a d) path ≡ None
      none-fresh a d e = nothing-content (fresh a d) path (λ r n act i t.
          let y = there-content d path r n act (in-fresh (acted r n act) a d i) t in
          none-some (content d path) e y.1)

      split : (a d : Journal) → content (fresh a d ++ a) path ≡ option_or (content (fresh a d) path)
          (content a path)
      split a d = content-append (fresh a d) a path

      abbrev Goal : Type 0
      Goal = unwrap_or (content (fresh N N' ++ N) path) b
          ≡ unwrap_or (content (fresh L L' ++ L) path) c

      by-split : unwrap_or (option_or (content (fresh N N') path) (content N path)) b
          ≡ unwrap_or (option_or (content (fresh L L') path) (content L path)) c → Goal
      by-split h = ap (λ x. unwrap_or x b) (split N N')
          ∙ (h ∙ sym (ap (λ x. unwrap_or x c) (split L L')))

      -- the next one has no act on the path
      only-first : content L' path ≡ None → Goal
      only-first e =
          let x = none-fresh L L' e in
          let y = none-fresh N N' (none-w' e) in
          by-split (ap (λ z. unwrap_or (option_or z (content N path)) b) y
          ∙ (first ∙ sym (ap (λ z. unwrap_or (option_or z (content L path)) c) x)))

      -- only the next one has
      only-second : content L path ≡ None → Goal
      only-second e =
          let all-c : content (fresh L L') path ≡ content L' path =
          fresh-content L L' path (λ r n act i t.
          elim (tells (has (act_of r n) L)) [
            | inl h ↦
                let w = marked-act r n L h in
                let m = ended-c r n w.0 w.1 in
                let k = ended-c' r n act i in
                let there : In (acted r n act) (own r L) =
                subst (λ j. In (acted r n act) j) (sym (same-own r m.0 k.0 m.1 k.1))
                (in-own r L' n act i) in
                let y = there-content L path r n act (own-in r r L n act there).0 t in
                absurd (none-some (content L path) e y.1)
            | inr h ↦ h
          ]) in
          let all-w : content (fresh N N') path ≡ content N' path =
          fresh-content N N' path (λ r n act i t.
          elim (tells (has (act_of r n) N)) [
            | inl h ↦
                let w = marked-act r n N h in
                let m = ended-w r n w.0 w.1 in
                let k = ended-w' r n act i in
                let x = acted-too q r k.0 k.1 n act path i t in
                let there : In (acted r x.0 x.1) (own r L) =
                subst (λ j. In (acted r x.0 x.1) j) (sym (same-own r m.0 k.0 m.1 k.1))
                (in-own r L' x.0 x.1 x.2) in
                let y = there-content L path r x.0 x.1 (own-in r r L x.0 x.1 there).0 x.3 in
                absurd (none-some (content L path) e y.1)
            | inr h ↦ h
          ]) in
          by-split (ap (λ z. unwrap_or z b) (ap (λ z. option_or (content (fresh N N') path) z)
          (none-w e) ∙ (or-none (content (fresh N N') path) ∙ all-w))
          ∙ (second ∙ sym (ap (λ z. unwrap_or z c) (ap
          (λ z. option_or (content (fresh L L') path) z) e
          ∙ (or-none (content (fresh L L') path) ∙ all-c)))))

      -- both have, and so one run has
      both : (x y : Option (List ℕ)) → content L path ≡ Some x → content L' path ≡ Some y → Goal
      both x y e f =
          let u = content-there L path x e in
          let v = content-there L' path y f in
          let r : RunId = u.0 in
          let of-l : (s : RunId) (n : ℕ) (act : Act) → In (acted s n act) L →
          bytes_eq (act_path act) path ≡ true → s ≡ r =
          λ s n act i t. of_one s v.0 n v.1 act v.2 path i v.3 t v.4
          ∙ sym (of_one r v.0 u.1 v.1 u.2 v.2 path u.3 v.3 u.4 v.4) in
          let of-l' : (s : RunId) (n : ℕ) (act : Act) → In (acted s n act) L' →
          bytes_eq (act_path act) path ≡ true → s ≡ r =
          λ s n act i t. sym (of_one r s u.1 n u.2 act path u.3 i u.4 t) in
          let of-n : (s : RunId) (n : ℕ) (act : Act) → In (acted s n act) (fresh N N' ++ N) →
          bytes_eq (act_path act) path ≡ true → s ≡ r =
          λ s n act i t. elim (in-parts (acted s n act) (fresh N N') N i) [
            | inl h ↦
                let g = in-fresh (acted s n act) N N' h in
                let k = ended-w' s n act g in
                let w = acted-too q s k.0 k.1 n act path g t in of-l' s w.0 w.1 w.2 w.3
            | inr h ↦
                let k = ended-w s n act h in
                let w = acted-too p s k.0 k.1 n act path h t in of-l s w.0 w.1 w.2 w.3
          ] in
          let m = ended-c r u.1 u.2 u.3 in
          let into' : In (acted r v.1 v.2) L' = subst (λ s. In (acted s v.1 v.2) L')
          (of-l' v.0 v.1 v.2 v.3 v.4) v.3 in
          let m' = ended-c' r v.1 v.2 into' in
          let gone : content (fresh L L') path ≡ None =
          nothing-content (fresh L L') path (λ s n act i t.
          let g = in-fresh (acted s n act) L L' i in
          let same = of-l' s n act g t in
          let g' : In (acted r n act) L' = subst (λ z. In (acted z n act) L') same g in
          let there : In (acted r n act) (own r L) =
          subst (λ j. In (acted r n act) j) (sym (same-own r m.0 m'.0 m.1 m'.1))
          (in-own r L' n act g') in
          let inl' : In (acted r n act) L = (own-in r r L n act there).0 in
          let marked : Has (act_of r n) L = in-marked (acted r n act) L inl' in
          let new : has (act_of s n) L ≡ false =
          (fresh-has (act_of s n) L L' (in-marked (acted s n act) (fresh L L') i)).1 in
          clash (has (act_of r n) L) marked (subst (λ z. has (act_of z n) L
          ≡ false) same new)) in
          let ended-both : record_of (fresh L L' ++ L) r ≡ Some m.0 =
          record-fresh L L' r ∙ ap (λ z. option_or z (record_of L' r)) m.1 in
          let whole : content (acts_in r m.0.segments) path ≡ Some x =
          sym (ap (λ j. content j path) (p.own_c r m.0 m.1))
          ∙ (sym (content-own r L path of-l) ∙ e) in
          let right : unwrap_or (content (fresh L L' ++ L) path) c ≡ x =
          ap (λ z. unwrap_or z c) (split L L' ∙ (ap (λ z. option_or z (content L path)) gone
          ∙ e)) in
          elim (kept-content (joined.own_w r m.0 ended-both) path) [
            | inl n ↦
                let none : content (fresh N N' ++ N) path ≡ None =
                content-own r (fresh N N' ++ N) path of-n ∙ n in
                let old : content N path ≡ None = or-second (content (fresh N N') path)
                (content N path) (sym (split N N') ∙ none) in
                finish (ap (λ z. unwrap_or z b) none ∙ (sym (ap (λ z. unwrap_or z b) old)
                ∙ (first ∙ ap (λ z. unwrap_or z c) e))) right
            | inr s ↦ finish (ap (λ z. unwrap_or z b)
                (content-own r (fresh N N' ++ N) path of-n ∙ (s ∙ whole))) right
          ]
        where
          or-second : {X : Type 0} (a d : Option X) → option_or a d ≡ None → d ≡ None
          or-second None d h = h
          or-second (Some z) d h = absurd (cc)

          finish : {x : Option (List ℕ)} → unwrap_or (content (fresh N N' ++ N) path) b ≡ x →
              unwrap_or (content (fresh L L' ++ L) path) c ≡ x → Goal
          finish h g = h ∙ sym g

      pub joined-seen : unwrap_or (content (fresh N N' ++ N) path) b
          ≡ unwrap_or (content (fresh L L' ++ L) path) c
      joined-seen = elim (none-or-some (content L' path)) [
        | inl n ↦ only-first n
        | inr s ↦ elim (none-or-some (content L path)) [
          | inl n ↦ only-second n
          | inr t ↦ both t.0 s.0 t.1 s.1
        ]
      ]
