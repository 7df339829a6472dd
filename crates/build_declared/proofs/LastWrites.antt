-- What a piece leaves in the tree at last: where all acts on its inputs had been done when it
-- began, and all acts on its outputs had been or are its own.
use Rattle.std.proofs.Common.{
  ◌≡◌,
  ℕ,
  suc,
  ◌<◌,
  ◌≤◌,
  ◌==◌,
  ◌⊎◌,
  inl,
  inr,
  Bool,
  true,
  false,
  List,
  [],
  ◌∷◌,
  ◌++◌,
  length,
  Option,
  None,
  Some,
  refl,
  ap,
  sym,
  ◌∙◌,
  subst,
  arith,
  append_assoc,
  length-append,
}
use Rattle.std.specs.Prelude.{is_some, option_map, unwrap_or}
use Rattle.std.specs.Option.{option_or}
use Rattle.std.specs.Str.{bytes_eq}
use Rattle.std.proofs.lemmas.Bool.{eqb-true, eq-eqb}
use Rattle.std.proofs.lemmas.Slice.Eq.{bytes_eq-Decides}
use Rattle.msb_values.specs.Acts.{act_path, act_bytes}
use Rattle.msb_values.specs.declared.act.Act.{Act}
use Rattle.msb_values.specs.declared.act.Act.TheVariants.{Write, Remove}
use Rattle.file_store.specs.Commits.{AreDone, bytes_there}
use Rattle.file_store.specs.Files.{file_at}
use Rattle.file_store.specs.declared.tree.File.{File}
use Rattle.result_cache.specs.declared.run.RunId.{RunId}
use Rattle.result_cache.specs.Lists.{In, this_or}
use Rattle.result_cache.specs.Journal.{
  Journal,
  Entry,
  acted,
  act_of,
  mark,
  same_mark,
  has,
  content,
}
use Rattle.result_cache.proofs.RunTests.{tells, clash, or_neither}
use Rattle.result_cache.proofs.JournalEntries.{Has}
use Rattle.build_meaning.proofs.MeaningDerived.{in-left, in-right}
use Rattle.build_incremental.specs.Alone.{last_bytes}
use Rattle.build_incremental.proofs.Entries.{
  none-some,
  none-or-some,
  content-append,
  in-parts,
  in-marked,
  marked-act,
  content-there,
  there-content,
  nothing-content,
}
use Rattle.build_incremental.proofs.Numbered.{numbered, in-numbered}
use Rattle.build_incremental.proofs.Orders.{Under, under-at, once-apart}
use Rattle.build_incremental.proofs.Pairs.{Once}
use Rattle.msb_files.specs.FinalTree.{commit_list}
use Rattle.build_declared.proofs.LeftTrees.{newer-stamp, untouched-file, left-bytes}

-- ---- one of a list, and what stands before and behind it

pub split-at : {X : Type 0} (x : X) (xs : List X) → In x xs →
    (newer : List X) × (older : List X) × (xs ≡ newer ++ x ∷ older)
split-at x [] i = absurd i
split-at x (y ∷ xs) (inl e) = ([], xs, ap (λ z. z ∷ xs) e)
split-at x (y ∷ xs) (inr i) = let s = split-at x xs i in (y ∷ s.0, s.1, ap (λ l. y ∷ l) s.2)

-- ---- numbered acts

-- an act of some that stand over others has a number from theirs on
pub numbered-parts : (run other : RunId) (newer older : List Act) (n : ℕ) (act : Act) →
    In (acted other n act) (numbered run (newer ++ older)) →
    ((length older ≤ n) × In act newer) ⊎ In (acted other n act) (numbered run older)
numbered-parts run other [] older n act i = inr i
numbered-parts run other (p ∷ newer) older n act (inl e) =
    let number : length (newer ++ older) ≡ n = cc in
    let this : p ≡ act = cc in
    let long : length older ≤ n = omega (arith, length-append newer older, number) in
    inl (long, inl this)
numbered-parts run other (p ∷ newer) older n act (inr i) =
    elim (numbered-parts run other newer older n act i) [
      | inl x ↦ inl (x.0, inr x.1)
      | inr u ↦ inr u
    ]

pub number-below : (run other : RunId) (acts : List Act) (n : ℕ) (act : Act) →
    In (acted other n act) (numbered run acts) → n < length acts
number-below run other [] n act i = absurd i
number-below run other (p ∷ acts) n act (inl e) =
    let number : length acts ≡ n = cc in omega arith
number-below run other (p ∷ acts) n act (inr i) =
    let h = number-below run other acts n act i in omega (arith, h)

pub in-newer : (run : RunId) (newer older : List Act) (e : Entry) → In e (numbered run older) →
    In e (numbered run (newer ++ older))
in-newer run [] older e i = i
in-newer run (p ∷ newer) older e i = inr (in-newer run newer older e i)

-- the act of a number
pub number-once : (run : RunId) (acts : List Act) (n : ℕ) (act other : Act) →
    In (acted run n act) (numbered run acts) → In (acted run n other) (numbered run acts) →
    act ≡ other
number-once run [] n act other i u = absurd i
number-once run (p ∷ acts) n act other (inl a) (inl b) =
    let same : acted run n act ≡ acted run n other = sym a ∙ b in cc
number-once run (p ∷ acts) n act other (inl a) (inr u) =
    let number : length acts ≡ n = cc in
    let h = number-below run run acts n other u in absurd (omega (arith, h, number))
number-once run (p ∷ acts) n act other (inr i) (inl b) =
    let number : length acts ≡ n = cc in
    let h = number-below run run acts n act i in absurd (omega (arith, h, number))
number-once run (p ∷ acts) n act other (inr i) (inr u) = number-once run acts n act other i u

-- ---- the last act on a path

pub record IsLast (acts : List Act) (path : List ℕ) (left : Option (List ℕ)) : Type 0 where
  pub newer : List Act
  pub act : Act
  pub older : List Act
  pub parts : acts ≡ newer ++ act ∷ older
  pub at : bytes_eq (act_path act) path ≡ true
  pub leaves : act_bytes act ≡ left
  pub none_newer : last_bytes newer path ≡ None

pub last-act : (acts : List Act) (path : List ℕ) (left : Option (List ℕ)) →
    last_bytes acts path ≡ Some left → IsLast acts path left
last-act [] path left h = absurd (cc)
last-act (p ∷ acts) path left h = go (bytes_eq (act_path p) path) refl h (last-act acts path left)
  where
    go : (b : Bool) → bytes_eq (act_path p) path ≡ b →
        this_or b (last_bytes acts path) (act_bytes p) ≡ Some left →
        (last_bytes acts path ≡ Some left → IsLast acts path left) → IsLast (p ∷ acts) path left
    go true e h rest = record {
      newer = [];
      act = p;
      older = acts;
      parts = refl;
      at = e;
      leaves = cc;
      none_newer = refl;
    }
    go false e h rest =
        let x = rest h in
        record {
          newer = p ∷ x.newer;
          act = x.act;
          older = x.older;
          parts = ap (λ l. p ∷ l) x.parts;
          at = x.at;
          leaves = x.leaves;
          none_newer = ap (λ t. this_or t (last_bytes x.newer path) (act_bytes p)) e
              ∙ x.none_newer;
        }

pub last-in : (acts : List Act) (path : List ℕ) (left : Option (List ℕ)) →
    last_bytes acts path ≡ Some left →
    (act : Act) × In act acts × (bytes_eq (act_path act) path ≡ true) × (act_bytes act ≡ left)
last-in acts path left h =
    let x = last-act acts path left h in (
      x.act,
      subst (In x.act) (sym x.parts) (in-right x.act x.newer (x.act ∷ x.older) (inl refl)),
      x.at,
      x.leaves,
    )

pub act-has-last : (acts : List Act) (path : List ℕ) (act : Act) → In act acts →
    bytes_eq (act_path act) path ≡ true → last_bytes acts path ≡ None → ⊥
act-has-last [] path act i e n = i
act-has-last (p ∷ acts) path act (inl same) e n =
    let t : bytes_eq (act_path p) path ≡ true =
    subst (λ z. bytes_eq (act_path z) path ≡ true) (sym same) e in
    let s : Some (act_bytes p) ≡ None =
    sym (ap (λ b. this_or b (last_bytes acts path) (act_bytes p)) t) ∙ n in
    absurd (cc)
act-has-last (p ∷ acts) path act (inr i) e n =
    go (bytes_eq (act_path p) path) n (act-has-last acts path act i e)
  where
    go : (b : Bool) → this_or b (last_bytes acts path) (act_bytes p) ≡ None →
        (last_bytes acts path ≡ None → ⊥) → ⊥
    go true n rest = absurd (cc)
    go false n rest = rest n

pub has-last : (acts : List Act) (act : Act) → In act acts →
    is_some (last_bytes acts (act_path act)) ≡ true
has-last acts act i = elim (none-or-some (last_bytes acts (act_path act))) [
  | inl n ↦ absurd (act-has-last acts (act_path act) act i
      ((bytes_eq-Decides (act_path act) (act_path act)).1 refl) n)
  | inr s ↦ ap is_some s.1
]

-- an act that removes nothing writes
pub write-leaves : (act : Act) → ((path : List ℕ) → act ≡ Remove path → ⊥) →
    (bytes : List ℕ) × (act_bytes act ≡ Some bytes)
write-leaves (Write put) h = (put.bytes, refl)
write-leaves (Remove path) h = absurd (h path refl)

file-there : (o : Option File) (bytes : List ℕ) →
    option_map (λ (f : File). f.bytes) o ≡ Some bytes →
    (f : File) × (o ≡ Some f) × (f.bytes ≡ bytes)
file-there None bytes h = absurd (cc)
file-there (Some f) bytes h = (f, refl, cc)

-- ---- a run, the journal at last, and the tree that it leaves

-- id is the run, which calls nothing: all are its acts, over the journal from. In the last journal
-- each act on a path is its own, or stood in from, as `order` and `rising` say.
pub record RunAtLast (before after : List File) (last : Journal) (id : RunId) (from : Journal)
    (all : List Act) : Type 0 where
  pub committed : AreDone (commit_list last) before after
  pub once : Once last
  pub told : (n : ℕ) (act : Act) → In (acted id n act) last →
      In (acted id n act) (numbered id all)
  pub there : (n : ℕ) (act : Act) → In (acted id n act) (numbered id all) →
      Has (act_of id n) last
  pub rising : (k : ℕ) → Under (act_of id k) id (suc k) last
  pub lasting : (run : RunId) (n : ℕ) (act : Act) → In (acted run n act) from →
      In (acted run n act) last
  pub same : (run : RunId) (n : ℕ) (act : Act) → In (acted run n act) last →
      Has (act_of run n) from → In (acted run n act) from

-- an act stood when a piece of the run began, which has these acts behind it
abbrev pub StoodBefore : (last : Journal) → RunId → Journal → List Act → RunId → ℕ → Type 0
StoodBefore last id from before run number = ((run ≡ id) × (number < length before))
    ⊎ (Has (act_of run number) from × Under (act_of run number) id 0 last)

module _ (tree after : List File) (last : Journal) (id : RunId) (from : Journal)
    (all : List Act) (r : RunAtLast tree after last id from all)
    (before new rest : List Act) (parts : all ≡ rest ++ (new ++ before))
    (inputs outputs : List ℕ → Type 0)
    (inputs_stood : (run : RunId) (n : ℕ) (act : Act) → In (acted run n act) last →
    inputs (act_path act) → StoodBefore last id from before run n)
    (outputs_own : (run : RunId) (n : ℕ) (act : Act) → In (acted run n act) last →
    outputs (act_path act) → StoodBefore last id from before run n
    ⊎ ((run ≡ id) × (length before ≤ n) × (n < length (new ++ before)))) where
  -- the journal with which the piece begins
  abbrev pub begins : Journal
  begins = numbered id before ++ from

  -- the acts of the piece are those of the run with its numbers
  own-act : (n : ℕ) (act : Act) → In (acted id n act) last → length before ≤ n →
      n < length (new ++ before) → In act new
  own-act n act i low high =
      elim (numbered-parts id id rest (new ++ before) n act
      (subst (λ l. In (acted id n act) (numbered id l)) parts (r.told n act i))) [
        | inl x ↦ absurd (let h = x.0 in omega (arith, h, high))
        | inr u ↦ elim (numbered-parts id id new before n act u) [
          | inl x ↦ x.1
          | inr v ↦ absurd (let h = number-below id id before n act v in omega (arith, h, low))
        ]
      ]

  -- an act that stood is one of those with which the piece begins
  stood-begins : (run : RunId) (n : ℕ) (act : Act) → In (acted run n act) last →
      StoodBefore last id from before run n → In (acted run n act) begins
  stood-begins run n act i (inr h) =
      in-right (acted run n act) (numbered id before) from (r.same run n act i h.0)
  stood-begins run n act i (inl x) =
      let mine : In (acted id n act) last = subst (λ z. In (acted z n act) last) x.0 i in
      subst (λ z. In (acted z n act) begins) (sym x.0)
      (in-left (acted id n act) (numbered id before) from
      (elim (numbered-parts id id rest (new ++ before) n act
      (subst (λ l. In (acted id n act) (numbered id l)) parts (r.told n act mine))) [
        | inl y ↦ absurd (let h = y.0 in let l = x.1 in
            omega (arith, h, l, length-append new before))
        | inr u ↦ elim (numbered-parts id id new before n act u) [
          | inl y ↦ absurd (let h = y.0 in let l = x.1 in omega (arith, h, l))
          | inr v ↦ v
        ]
      ]))

  own-last : (n : ℕ) (act : Act) → In (acted id n act) (numbered id (new ++ before)) →
      In (acted id n act) last
  own-last n act u =
      let mine : In (acted id n act) (numbered id all) =
      subst (λ l. In (acted id n act) (numbered id l)) (sym parts)
      (in-newer id rest (new ++ before) (acted id n act) u) in
      let found = marked-act id n last (r.there n act mine) in
      let same : found.0 ≡ act =
      number-once id all n found.0 act (r.told n found.0 found.1) mine in
      subst (λ z. In (acted id n z) last) same found.1

  begins-last : (run : RunId) (n : ℕ) (act : Act) → In (acted run n act) begins →
      In (acted run n act) last
  begins-last run n act i = elim (in-parts (acted run n act) (numbered id before) from i) [
    | inr u ↦ r.lasting run n act u
    | inl u ↦
        let x : run ≡ id = (in-numbered id run before n act u).0 in
        subst (λ z. In (acted z n act) last) (sym x)
        (own-last n act (in-newer id new before (acted id n act)
        (subst (λ z. In (acted z n act) (numbered id before)) x u)))
  ]

  -- what is there when the piece begins is there at last, if nobody acts on it
  pub there-last : (path bytes : List ℕ) →
      unwrap_or (content begins path) (bytes_there path tree) ≡ Some bytes →
      content last path ≡ None → (f : File) × (file_at path after ≡ Some f)
  there-last path bytes h n =
      let nb : content begins path ≡ None = elim (none-or-some (content begins path)) [
        | inl none ↦ none
        | inr s ↦
            let c = content-there begins path s.0 s.1 in
            let l = there-content last path c.0 c.1 c.2 (begins-last c.0 c.1 c.2 c.3) c.4 in
            absurd (none-some (content last path) n l.1)
      ] in
      let f = file-there (file_at path after) bytes
      (left-bytes tree after last r.committed path
      ∙ (ap (λ o. unwrap_or o (bytes_there path tree)) (n ∙ sym nb) ∙ h)) in
      (f.0, f.1)

  -- ---- an output that the piece has left as it was

  none-acted : (path : List ℕ) → content begins path ≡ None → last_bytes new path ≡ None →
      ((run : RunId) (n : ℕ) (act : Act) → In (acted run n act) last →
      bytes_eq (act_path act) path ≡ true → StoodBefore last id from before run n
      ⊎ ((run ≡ id) × (length before ≤ n) × (n < length (new ++ before)))) →
      content last path ≡ None
  none-acted path nb nn so = nothing-content last path (λ run n act i e.
      elim (so run n act i e) [
        | inl stood ↦
            let c = there-content begins path run n act (stood-begins run n act i stood) e in
            none-some (content begins path) nb c.1
        | inr own ↦
            act-has-last new path act (own-act n act
            (subst (λ z. In (acted z n act) last) own.0 i) own.1 own.2) e nn
      ])

  at-path : (S : List ℕ → Type 0) (act : Act) (path : List ℕ) → S path →
      bytes_eq (act_path act) path ≡ true → S (act_path act)
  at-path S act path s e = subst S (sym ((bytes_eq-Decides (act_path act) path).0 e)) s

  -- an output is then the tree's
  pub left-output : (path : List ℕ) → outputs path → content begins path ≡ None →
      last_bytes new path ≡ None → file_at path after ≡ file_at path tree
  left-output path o nb nn = untouched-file tree after last r.committed path
      (none-acted path nb nn (λ run n act i e.
      outputs_own run n act i (at-path outputs act path o e)))

  -- so is an input on which nobody has acted when it begins
  pub left-input : (path : List ℕ) → inputs path → content begins path ≡ None →
      file_at path after ≡ file_at path tree
  left-input path o nb = untouched-file tree after last r.committed path
      (nothing-content last path (λ run n act i e.
      let c = there-content begins path run n act (stood-begins run n act i
      (inputs_stood run n act i (at-path inputs act path o e))) e in
      none-some (content begins path) nb c.1))

  -- ---- an output that the piece has written

  module _ (output bytes : List ℕ) (o : outputs output)
      (written : last_bytes new output ≡ Some (Some bytes)) where
    abbrev own : IsLast new output (Some bytes)
    own = last-act new output (Some bytes) written

    -- its number, and its entry
    abbrev number : ℕ
    number = length (own.older ++ before)

    abbrev this : Entry
    this = acted id number own.act

    behind : new ++ before ≡ own.newer ++ (own.act ∷ (own.older ++ before))
    behind = ap (λ l. l ++ before) own.parts
        ∙ append_assoc own.newer (own.act ∷ own.older) before

    this-last : In this last
    this-last = own-last number own.act (subst (λ l. In this (numbered id l)) (sym behind)
        (in-newer id own.newer (own.act ∷ (own.older ++ before)) this (inl refl)))

    abbrev parts-last : (newer : Journal) × (older : Journal) × (last ≡ newer ++ this ∷ older)
    parts-last = split-at this last this-last

    abbrev newer : Journal
    newer = parts-last.0

    abbrev older : Journal
    older = parts-last.1

    -- what stands above it, if it were below, would be there twice
    not-below : (e : Entry) → In e newer → Has (mark e) older → ⊥
    not-below e i h =
        let none : has (mark e) (this ∷ older) ≡ false =
        once-apart newer (this ∷ older) (subst Once parts-last.2 r.once) e i in
        clash (has (mark e) older) h
        (or_neither (same_mark (mark this) (mark e)) (has (mark e) older) none).1

    lower : (run : RunId) (n : ℕ) (act : Act) → run ≡ id → n < number →
        In (acted run n act) newer → ⊥
    lower run n act e h i =
        let low : suc n ≤ number = omega (arith, h) in
        let below : Has (act_of id n) older =
        under-at (act_of id n) id (suc n) number newer older own.act
        (subst (Under (act_of id n) id (suc n)) parts-last.2 (r.rising n)) low in
        not-below (acted run n act) i (subst (λ z. Has (act_of z n) older) (sym e) below)

    stood-not-above : (run : RunId) (n : ℕ) (act : Act) → In (acted run n act) newer →
        StoodBefore last id from before run n → ⊥
    stood-not-above run n act i (inl x) =
        let h = x.1 in
        lower run n act x.0 (omega (arith, h, length-append own.older before)) i
    stood-not-above run n act i (inr x) =
        let low : 0 ≤ number = omega arith in
        not-below (acted run n act) i (under-at (act_of run n) id 0 number newer older own.act
        (subst (Under (act_of run n) id 0) parts-last.2 x.1) low)

    above-last : (e : Entry) → In e newer → In e last
    above-last e i = subst (In e) (sym parts-last.2) (in-left e newer (this ∷ older) i)

    -- of the piece's own acts on the path, none has a higher number
    own-not-above : (n : ℕ) (act : Act) → In (acted id n act) newer →
        bytes_eq (act_path act) output ≡ true → length before ≤ n → n < length (new ++ before) → ⊥
    own-not-above n act i e low high =
        elim (numbered-parts id id rest (new ++ before) n act
        (subst (λ l. In (acted id n act) (numbered id l)) parts
        (r.told n act (above-last (acted id n act) i)))) [
          | inl x ↦ let h = x.0 in omega (arith, h, high)
          | inr u ↦ elim (numbered-parts id id own.newer (own.act ∷ (own.older ++ before)) n act
              (subst (λ l. In (acted id n act) (numbered id l)) behind u)) [
                | inl x ↦ act-has-last own.newer output act x.1 e own.none_newer
                | inr v ↦ not-higher n act i
                    (number-below id id (own.act ∷ (own.older ++ before)) n act v)
              ]
        ]
      where
        not-higher : (n : ℕ) (act : Act) → In (acted id n act) newer → n < suc number → ⊥
        not-higher n act i h = elim (tells (n == number)) [
          | inl t ↦
              let same : n ≡ number = eqb-true n number t in
              let none : has (act_of id n) (this ∷ older) ≡ false =
              once-apart newer (this ∷ older) (subst Once parts-last.2 r.once)
              (acted id n act) i in
              let mine : has (act_of id number) (this ∷ older) ≡ true =
              in-marked this (this ∷ older) (inl refl) in
              clash (has (act_of id n) (this ∷ older))
              (subst (λ z. has (act_of id z) (this ∷ older) ≡ true) (sym same) mine) none
          | inr f ↦
              let apart : n ≡ number → ⊥ = λ e. clash (n == number) (eq-eqb n number e) f in
              let less : n < number = omega (arith, apart, h) in
              lower id n act refl less i
        ]

    newer-none : (path : List ℕ) → ((run : RunId) (n : ℕ) (act : Act) →
        In (acted run n act) newer → bytes_eq (act_path act) path ≡ true →
        StoodBefore last id from before run n
        ⊎ ((run ≡ id) × (length before ≤ n) × (n < length (new ++ before))
        × (bytes_eq (act_path act) output ≡ true))) → content newer path ≡ None
    newer-none path so = nothing-content newer path (λ run n act i e.
        elim (so run n act i e) [
          | inl stood ↦ stood-not-above run n act i stood
          | inr x ↦ own-not-above n act (subst (λ z. In (acted z n act) newer) x.0 i)
              x.3 x.1 x.2
        ])

    output-newer : content newer output ≡ None
    output-newer = newer-none output (λ run n act i e.
        elim (outputs_own run n act (above-last (acted run n act) i)
        (at-path outputs act output o e)) [
          | inl stood ↦ inl stood
          | inr x ↦ inr (x.0, x.1, x.2, e)
        ])

    input-newer : (path : List ℕ) → inputs path → content newer path ≡ None
    input-newer path o = newer-none path (λ run n act i e.
        inl (inputs_stood run n act (above-last (acted run n act) i)
        (at-path inputs act path o e)))

    -- the front of the journal, with this entry
    abbrev front : Journal
    front = newer ++ this ∷ []

    front-parts : last ≡ front ++ older
    front-parts = parts-last.2 ∙ sym (append_assoc newer (this ∷ []) older)

    front-output : content front output ≡ Some (Some bytes)
    front-output = content-append newer (this ∷ []) output
        ∙ (ap (λ c. option_or c (content (this ∷ []) output)) output-newer
        ∙ (ap (λ t. this_or t None (act_bytes own.act)) own.at ∙ ap Some own.leaves))

    front-input : (path : List ℕ) → inputs path → bytes_eq path output ≡ false →
        content front path ≡ None
    front-input path i apart =
        content-append newer (this ∷ []) path
        ∙ (ap (λ c. option_or c (content (this ∷ []) path)) (input-newer path i)
        ∙ ap (λ t. this_or t None (act_bytes own.act))
        (not-this (bytes_eq (act_path own.act) path) refl))
      where
        not-this : (b : Bool) → bytes_eq (act_path own.act) path ≡ b → b ≡ false
        not-this true e =
            let a : act_path own.act ≡ path = (bytes_eq-Decides (act_path own.act) path).0 e in
            let b : act_path own.act ≡ output =
            (bytes_eq-Decides (act_path own.act) output).0 own.at in
            absurd (clash (bytes_eq path output) ((bytes_eq-Decides path output).1 (sym a ∙ b))
            apart)
        not-this false e = refl

    -- it has these bytes at last
    pub written-output : (f : File) × (file_at output after ≡ Some f) × (f.bytes ≡ bytes)
    written-output = file-there (file_at output after) bytes
        (left-bytes tree after last r.committed output
        ∙ ap (λ o. unwrap_or o (bytes_there output tree))
        (ap (λ j. content j output) front-parts ∙ (content-append front older output
        ∙ ap (λ c. option_or c (content older output)) front-output)))

    -- and is no older than an input that is there
    pub written-newer : (path : List ℕ) → inputs path → (g f : File) →
        file_at path after ≡ Some g → file_at output after ≡ Some f → g.stamp ≤ f.stamp
    written-newer path i g f hg hf = go (bytes_eq path output) refl
      where
        go : (b : Bool) → bytes_eq path output ≡ b → g.stamp ≤ f.stamp
        go true e =
            let s : Some g ≡ Some f =
            sym hg ∙ (ap (λ p. file_at p after) ((bytes_eq-Decides path output).0 e) ∙ hf) in
            let same : g ≡ f = cc in
            let stamps : g.stamp ≡ f.stamp = ap (λ (z : File). z.stamp) same in
            omega (arith, stamps)
        go false e =
            let h : g.stamp < f.stamp = newer-stamp tree after front older
            (subst (λ l. AreDone (commit_list l) tree after) front-parts r.committed)
            path output bytes (front-input path i e) front-output g f hg hf in
            omega (arith, h)
