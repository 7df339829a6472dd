-- The acts of one run, numbered, and two lists of them joined.
use Rattle.std.proofs.Common.{
  ◌≡◌,
  ℕ,
  suc,
  ◌+◌,
  ◌<◌,
  ◌≤◌,
  ◌==◌,
  Bool,
  true,
  false,
  ◌⊎◌,
  inl,
  inr,
  List,
  [],
  ◌∷◌,
  ◌++◌,
  length,
  None,
  refl,
  ap,
  sym,
  ◌∙◌,
  subst,
  arith,
  length-append,
}
use Rattle.std.specs.Prelude.{nat_lt}
use Rattle.std.specs.Str.{bytes_eq}
use Rattle.std.proofs.lemmas.Bool.{ltb-true, ltb-false, eqb-true, eq-eqb}
use Rattle.msb_values.specs.Acts.{act_path, act_bytes}
use Rattle.msb_values.specs.declared.act.Act.{Act}
use Rattle.result_cache.specs.declared.run.RunId.{RunId}
use Rattle.result_cache.specs.declared.request.RequestKey.{RequestKey}
use Rattle.result_cache.specs.declared.request.RequestResult.{RequestResult}
use Rattle.result_cache.specs.declared.record.Segment.{Segment}
use Rattle.result_cache.specs.declared.record.Segment.TheVariants.{File, Call}
use Rattle.result_cache.specs.Lists.{In, this_or}
use Rattle.result_cache.specs.Journal.{
  Journal,
  Entry,
  acted,
  Mark,
  act_of,
  mark,
  same_mark,
  has,
  add_unless,
  content,
}
use Rattle.result_cache.proofs.RunTests.{
  tells,
  clash,
  or_left,
  or_right,
  same_run-refl,
  same_mark-refl,
}
use Rattle.result_cache.proofs.JournalEntries.{Has}
use Rattle.build_meaning.specs.SoFar.{called}
use Rattle.build_incremental.specs.Alone.{segments_of, last_bytes}

-- ---- the entries that another journal has not

abbrev pub fresh : Journal → Journal → Journal
fresh a [] = []
fresh a (e ∷ b) = add_unless (has (mark e) a) (fresh a b) e

pub fresh-none : (a b : Journal) → ((s : Mark) → Has s b → Has s a) → fresh a b ≡ []
fresh-none a [] h = refl
fresh-none a (e ∷ b) h =
    ap (λ t. add_unless t (fresh a b) e) (h (mark e)
    (or_left (same_mark (mark e) (mark e)) (has (mark e) b) (same_mark-refl (mark e))))
    ∙ fresh-none a b (λ s g. h s (or_right (same_mark (mark e) s) (has s b) g))

pub fresh-all : (a b : Journal) → ((s : Mark) → Has s b → has s a ≡ false) → fresh a b ≡ b
fresh-all a [] h = refl
fresh-all a (e ∷ b) h =
    ap (λ t. add_unless t (fresh a b) e) (h (mark e)
    (or_left (same_mark (mark e) (mark e)) (has (mark e) b) (same_mark-refl (mark e))))
    ∙ ap (λ l. e ∷ l) (fresh-all a b (λ s g. h s (or_right (same_mark (mark e) s) (has s b) g)))

pub in-fresh : (x : Entry) (a b : Journal) → In x (fresh a b) → In x b
in-fresh x a [] i = i
in-fresh x a (e ∷ b) i = go (has (mark e) a) i (in-fresh x a b)
  where
    go : (t : Bool) → In x (add_unless t (fresh a b) e) → (In x (fresh a b) → In x b) → In x (e ∷ b)
    go true i ih = inr (ih i)
    go false (inl p) ih = inl p
    go false (inr i) ih = inr (ih i)

-- ---- numbered acts

abbrev pub numbered : RunId → List Act → Journal
numbered run [] = []
numbered run (act ∷ older) = acted run (length older) act ∷ numbered run older

pub content-numbered : (run : RunId) (acts : List Act) (path : List ℕ) →
    content (numbered run acts) path ≡ last_bytes acts path
content-numbered run [] path = refl
content-numbered run (act ∷ older) path =
    ap (λ x. this_or (bytes_eq (act_path act) path) x (act_bytes act))
    (content-numbered run older path)

pub in-numbered : (run other : RunId) (acts : List Act) (n : ℕ) (act : Act) →
    In (acted other n act) (numbered run acts) → (other ≡ run) × In act acts
in-numbered run other [] n act i = absurd i
in-numbered run other (p ∷ older) n act (inl e) =
    (let same : run ≡ other = cc in sym same, inl (cc))
in-numbered run other (p ∷ older) n act (inr i) = let x = in-numbered run other older n act i in
    (x.0, inr x.1)

not-same : (a b : ℕ) → a < b → (a == b) ≡ false
not-same a b h = elim (tells (a == b)) [
  | inl t ↦ (let e : a ≡ b = eqb-true a b t in
      absurd (omega arith))
  | inr f ↦ f
]

differs : (run : RunId) (a b : ℕ) → a < b → same_mark (act_of run a) (act_of run b) ≡ false
differs run a b h = rw (same_run-refl run, not-same a b h)

pub has-below : (run : RunId) (acts : List Act) (n : ℕ) → n < length acts →
    has (act_of run n) (numbered run acts) ≡ true
has-below run [] n h = absurd (omega arith)
has-below run (act ∷ older) n h = elim (tells (length older == n)) [
  | inl t ↦ or_left (same_mark (act_of run (length older)) (act_of run n))
      (has (act_of run n) (numbered run older)) (rw (same_run-refl run, t))
  | inr f ↦
      let apart : length older ≡ n → ⊥ = λ e. clash (length older == n)
      (eq-eqb (length older) n e) f in
      or_right (same_mark (act_of run (length older)) (act_of run n))
      (has (act_of run n) (numbered run older)) (has-below run older n (omega (arith, apart)))
]

pub has-above : (run : RunId) (acts : List Act) (n : ℕ) → length acts ≤ n →
    has (act_of run n) (numbered run acts) ≡ false
has-above run [] n h = refl
has-above run (act ∷ older) n h =
    let less : length older < n = omega arith in
    rw (differs run (length older) n less) (has-above run older n (omega arith))

-- ---- the acts of a run in two journals, joined

abbrev over_if : Bool → List Act → Act → List Act → List Act
over_if true a act rest = a
over_if false a act rest = act ∷ rest

abbrev pub over : List Act → List Act → List Act
over a [] = a
over a (act ∷ older) = over_if (nat_lt (length older) (length a)) a act (over a older)

over-length : (a b : List Act) → length a ≤ length b → length (over a b) ≡ length b
over-length a [] h = omega arith
over-length a (act ∷ older) h = go (nat_lt (length older) (length a)) refl (over-length a older)
  where
    go : (t : Bool) → nat_lt (length older) (length a) ≡ t →
        (length a ≤ length older → length (over a older) ≡ length older) →
        length (over_if t a act (over a older)) ≡ suc (length older)
    go true e ih = let l : length older < length a = ltb-true (length older) (length a) e in
        omega arith
    go false e ih = let l : length a ≤ length older = ltb-false (length older) (length a) e in
        let x = ih l in omega (arith, x)

-- acts with lower numbers are there already
none-higher : (run : RunId) (a b : List Act) → length b ≤ length a →
    fresh (numbered run a) (numbered run b) ≡ []
none-higher run a [] h = refl
none-higher run a (act ∷ older) h =
    ap (λ t. add_unless t (fresh (numbered run a) (numbered run older))
    (acted run (length older) act)) (has-below run a (length older) (omega arith))
    ∙ none-higher run a older (omega arith)

pub fresh-numbered : (run : RunId) (a b : List Act) →
    fresh (numbered run a) (numbered run b) ++ numbered run a ≡ numbered run (over a b)
fresh-numbered run a [] = refl
fresh-numbered run a (act ∷ older) = go (nat_lt (length older)
    (length a)) refl (fresh-numbered run a older)
  where
    go : (t : Bool) → nat_lt (length older) (length a) ≡ t →
        fresh (numbered run a) (numbered run older) ++ numbered run a
        ≡ numbered run (over a older) →
        add_unless (has (act_of run (length older)) (numbered run a))
        (fresh (numbered run a) (numbered run older))
        (acted run (length older) act) ++ numbered run a
        ≡ numbered run (over_if t a act (over a older))
    go true e ih =
        let l : length older < length a = ltb-true (length older) (length a) e in
        ap (λ u. add_unless u (fresh (numbered run a) (numbered run older))
        (acted run (length older) act) ++ numbered run a) (has-below run a (length older) l)
        ∙ ap (λ x. x ++ numbered run a) (none-higher run a older (omega arith))
    go false e ih =
        let l : length a ≤ length older = ltb-false (length older) (length a) e in
        ap (λ u. add_unless u (fresh (numbered run a) (numbered run older))
        (acted run (length older) act) ++ numbered run a) (has-above run a (length older) l)
        ∙ ap (λ x. acted run (length older) act ∷ x) ih
        ∙ ap (λ n. acted run n act ∷ numbered run (over a older)) (sym (over-length a older l))

over-last : (a b : List Act) (path : List ℕ) →
    (last_bytes (over a b) path ≡ last_bytes b path)
    ⊎ (last_bytes (over a b) path ≡ last_bytes a path)
over-last a [] path = inr refl
over-last a (act ∷ older) path = go (nat_lt (length older) (length a))
    (bytes_eq (act_path act) path) refl (over-last a older path)
  where
    go : (t b : Bool) → bytes_eq (act_path act) path ≡ b →
        (last_bytes (over a older) path ≡ last_bytes older path)
        ⊎ (last_bytes (over a older) path ≡ last_bytes a path) →
        (last_bytes (over_if t a act (over a older)) path ≡ this_or (bytes_eq (act_path act) path)
        (last_bytes older path) (act_bytes act)) ⊎ (last_bytes (over_if t a act (over a older)) path
        ≡ last_bytes a path)
    go true b e ih = inr refl
    go false true e ih = inl (ap (λ t. this_or t (last_bytes (over a older) path) (act_bytes act)) e
        ∙ sym (ap (λ t. this_or t (last_bytes older path) (act_bytes act)) e))
    go false false e (inl p) =
        inl (ap (λ x. this_or (bytes_eq (act_path act) path) x (act_bytes act)) p)
    go false false e (inr p) =
        inr (ap (λ t. this_or t (last_bytes (over a older) path) (act_bytes act)) e ∙ p)

-- what a run keeps of all its acts: all of them; or it has numbered ones, which leave each path on
-- which they act as the whole leaves it
pub data Kept (run : RunId) (whole a : Journal) : Type 0 where
  kept_whole : a ≡ whole → Kept run whole a
  kept_part : (acts wholes : List Act) → a ≡ numbered run acts → whole ≡ numbered run wholes →
      ((path : List ℕ) → (last_bytes acts path ≡ None)
      ⊎ (last_bytes acts path ≡ last_bytes wholes path)) → Kept run whole a

pub kept-content : {run : RunId} {whole a : Journal} → Kept run whole a → (path : List ℕ) →
    (content a path ≡ None) ⊎ (content a path ≡ content whole path)
kept-content (kept_whole e) path = inr (ap (λ j. content j path) e)
kept-content {run} (kept_part acts wholes e f h) path =
    let c = ap (λ j. content j path) e ∙ content-numbered run acts path in
    let d = ap (λ j. content j path) f ∙ content-numbered run wholes path in
    elim (h path) [ inl n ↦ inl (c ∙ n) | inr s ↦ inr (c ∙ (s ∙ sym d)) ]

-- as a part, where the whole is numbered
as-part : {run : RunId} {whole a : Journal} (wholes : List Act) → whole ≡ numbered run wholes →
    Kept run whole a
    → (acts : List Act) × (a ≡ numbered run acts)
    × ((path : List ℕ) → (last_bytes acts path ≡ None)
    ⊎ (last_bytes acts path ≡ content whole path))
as-part {run} wholes f (kept_whole e) = (
  wholes,
  e ∙ f,
  λ path. inr (sym (ap (λ j. content j path) f ∙ content-numbered run wholes path)),
)
as-part {run} wholes f (kept_part acts others e g h) = (
  acts,
  e,
  λ path. elim (h path) [
    | inl n ↦ inl n
    | inr s ↦ inr (s ∙ sym (ap (λ j. content j path) g ∙ content-numbered run others path))
  ],
)

join-parts : {run : RunId} {whole a b : Journal} (wholes : List Act) → whole ≡ numbered run wholes →
    Kept run whole a → Kept run whole b → Kept run whole (fresh a b ++ a)
join-parts {run} {whole} {a} {b} wholes f k l =
    let x = as-part wholes f k in
    let y = as-part wholes f l in
    let w : (path : List ℕ) → content whole path ≡ last_bytes wholes path =
    λ path. ap (λ j. content j path) f ∙ content-numbered run wholes path in
    kept_part (over x.0 y.0) wholes (ap (λ j. fresh j b ++ j) x.1
    ∙ (ap (λ j. fresh (numbered run x.0) j ++ numbered run x.0) y.1
    ∙ fresh-numbered run x.0 y.0)) f
    (λ path. elim (over-last x.0 y.0 path) [
      | inl p ↦ elim (y.2 path) [ inl n ↦ inl (p ∙ n) | inr s ↦ inr (p ∙ (s ∙ w path)) ]
      | inr p ↦ elim (x.2 path) [ inl n ↦ inl (p ∙ n) | inr s ↦ inr (p ∙ (s ∙ w path)) ]
    ])

pub kept-joined : {run : RunId} {whole a b : Journal} → Kept run whole a → Kept run whole b →
    Kept run whole (fresh a b ++ a)
kept-joined {whole = whole} {a = a} {b = b} (kept_whole e) (kept_whole f) =
    kept_whole (ap (λ j. j ++ a) (fresh-none a b (λ s h. subst (λ j. Has s j) (f ∙ sym e) h)) ∙ e)
kept-joined (kept_whole e) (kept_part acts wholes f g h) =
    join-parts wholes g (kept_whole e) (kept_part acts wholes f g h)
kept-joined (kept_part acts wholes e g h) l = join-parts wholes g (kept_part acts wholes e g h) l

-- ---- the acts that a record tells of

abbrev pub acts_from : RunId → ℕ → Journal → List Segment → Journal
acts_from run n before [] = before
acts_from run n before (File act ∷ segments) =
    acts_from run (suc n) (acted run n act ∷ before) segments
acts_from run n before (Call key runs ∷ segments) = acts_from run (suc n) before segments

abbrev pub acts_in : RunId → List Segment → Journal
acts_in run segments = acts_from run 0 [] segments

acts-append : (run : RunId) (n : ℕ) (before : Journal) (a b : List Segment) →
    acts_from run n before (a ++ b) ≡ acts_from run (n + length a)
    (acts_from run n before a) b
acts-append run n before [] b = ap (λ k. acts_from run k before b) (let e : n ≡ n + 0 =
    omega arith in e)
acts-append run n before (File act ∷ a) b =
    acts-append run (suc n) (acted run n act ∷ before) a b
    ∙ ap (λ k. acts_from run k (acts_from run (suc n) (acted run n act ∷ before) a) b)
    (let e : suc n + length a ≡ n + suc (length a) = omega arith in e)
acts-append run n before (Call key runs ∷ a) b =
    acts-append run (suc n) before a b ∙ ap (λ k.
    acts_from run k (acts_from run (suc n) before a) b)
    (let e : suc n + length a ≡ n + suc (length a) = omega arith in e)

pub acts-more : (run : RunId) (segments : List Segment) (act : Act) →
    acts_in run (segments ++ File act ∷ []) ≡ acted run (length segments) act
    ∷ acts_in run segments
acts-more run segments act =
    acts-append run 0 [] segments (File act ∷ [])
    ∙ ap (λ n. acted run n act ∷ acts_in run segments)
    (let e : 0 + length segments ≡ length segments = omega arith in e)

no-acts : (run : RunId) (n : ℕ) (before : Journal) (keys : List RequestKey)
    (results : List RequestResult) → acts_from run n before (called keys results) ≡ before
no-acts run n before [] results = refl
no-acts run n before (key ∷ keys) [] = refl
no-acts run n before (key ∷ keys) (result ∷ results) = no-acts run (suc n) before keys results

pub acts-called : (run : RunId) (segments : List Segment) (keys : List RequestKey)
    (results : List RequestResult) → acts_in run (segments ++ called keys results)
    ≡ acts_in run segments
acts-called run segments keys results = acts-append run 0 [] segments (called keys results)
    ∙ no-acts run (0 + length segments) (acts_in run segments) keys results

pub segments-length : (acts : List Act) → length (segments_of acts) ≡ length acts
segments-length [] = refl
segments-length (act ∷ older) = let h = segments-length older in
    omega (arith, length-append (segments_of older) (File act ∷ []), h)

pub acts-segments : (run : RunId) (acts : List Act) →
    acts_in run (segments_of acts) ≡ numbered run acts
acts-segments run [] = refl
acts-segments run (act ∷ older) =
    acts-more run (segments_of older) act
    ∙ (ap (λ n. acted run n act ∷ acts_in run (segments_of older)) (segments-length older)
    ∙ ap (λ j. acted run (length older) act ∷ j) (acts-segments run older))

-- numbers are below the number of segments
acts-above : (run : RunId) (n k : ℕ) (before : Journal) (segments : List Segment) →
    n + length segments ≤ k → has (act_of run k) before ≡ false →
    has (act_of run k) (acts_from run n before segments) ≡ false
acts-above run n k before [] l h = h
acts-above run n k before (File act ∷ segments) l h =
    acts-above run (suc n) k (acted run n act ∷ before) segments (omega arith) (let less : n < k =
    omega arith in rw (differs run n k less) h)
acts-above run n k before (Call key runs ∷ segments) l h =
    acts-above run (suc n) k before segments (omega arith) h

pub next-new : (run : RunId) (segments : List Segment) →
    has (act_of run (length segments)) (acts_in run segments) ≡ false
next-new run segments = acts-above run 0 (length segments) [] segments (omega arith) refl

in-acts : (run other : RunId) (n k : ℕ) (act : Act) (before : Journal) (segments : List Segment) →
    In (acted other k act) (acts_from run n before segments) →
    In (acted other k act) before ⊎ In (File act) segments
in-acts run other n k act before [] i = inl i
in-acts run other n k act before (File p ∷ segments) i =
    elim (in-acts run other (suc n) k act (acted run n p ∷ before) segments i) [
      | inl (inl e) ↦ inr (inl (let same : p ≡ act = cc in ap File same))
      | inl (inr j) ↦ inl j
      | inr j ↦ inr (inr j)
    ]
in-acts run other n k act before (Call key runs ∷ segments) i =
    elim (in-acts run other (suc n) k act before segments i) [
      | inl j ↦ inl j
      | inr j ↦ inr (inr j)
    ]

pub acted-in : (run other : RunId) (k : ℕ) (act : Act) (segments : List Segment) →
    In (acted other k act) (acts_in run segments) → In (File act) segments
acted-in run other k act segments i = elim (in-acts run other 0 k act [] segments i)
    [ inl j ↦ absurd j | inr j ↦ j ]
