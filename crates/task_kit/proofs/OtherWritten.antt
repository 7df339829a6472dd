-- A task does the same whatever its run has written before, unless a file is too large.
use Rattle.std.proofs.Common.{
  ◌≡◌,
  ℕ,
  ◌+◌,
  ◌==◌,
  ◌&&◌,
  not,
  Bool,
  true,
  false,
  List,
  [],
  ◌∷◌,
  ◌++◌,
  length,
  Option,
  None,
  Some,
  refl,
  ap,
  ◌∙◌,
  zip,
}
use Rattle.std.specs.Prelude.{Result, Ok, Err, codes, if◌then◌else◌}
use Rattle.msb_laws.specs.Results.{and_then, map_ok, all_ok}
use Rattle.msb_values.specs.Pairs.{value_at}
use Rattle.msb_values.specs.declared.item.Item.{Item}
use Rattle.msb_values.specs.declared.note.Note.{Note}
use Rattle.msb_values.specs.declared.note.Note.TheVariants.{Fail}
use Rattle.msb_values.specs.Acts.{act_path}
use Rattle.msb_values.specs.declared.act.Act.{Act}
use Rattle.msb_values.specs.declared.act.Act.TheVariants.{Write}
use Rattle.msb_values.specs.declared.put.Put.{Put}
use Rattle.msb_paths.specs.Normal.{is_normal}
use Rattle.msb_files.specs.Views.{View, content}
use Rattle.task_trait.specs.Failures.{failure_text}
use Rattle.task_trait.specs.Params.{items_of, text_of, check_known, truth_at, unless, needed_text}
use Rattle.task_trait.specs.declared.failures.Failure.{Failure}
use Rattle.task_trait.specs.declared.failures.Failure.TheVariants.{TooLarge, MissingSource, BadPath}
use Rattle.task_trait.specs.declared.tools.Param.{Param}
use Rattle.task_trait.specs.declared.tools.TaskOutput.{TaskOutput}
use Rattle.task_trait.specs.declared.tools.ToolAnswer.{ToolAnswer}
use Rattle.task_trait.specs.declared.tools.ToolAnswer.TheVariants.{Unknown, Made as MadeBy}
use Rattle.task_kit.specs.Copies.{
  with_item,
  item_copied,
  is_unchanged,
  written_at,
  copied_from,
  copied,
  copy_outputs,
  all_copied,
  copied_to,
  copy,
  named_at,
  all_below,
  source_at,
  chosen,
  counted,
}
use Rattle.task_kit.specs.Progress.{
  added,
  fits,
  with_act,
  with_file,
  made_by,
  made_in,
  started,
  kept_by,
  output_with,
  succeeded,
}
use Rattle.task_kit.specs.Lines.{written_lines, output_written, write_lines, text_after}
use Rattle.task_kit.specs.Foreign.{acted_by_tool, foreign_output}
use Rattle.task_kit.specs.Paths.{path_in}
use Rattle.task_kit.specs.Tasks.{built_in, done, output_of, answer_of, answer}
use Rattle.task_kit.specs.declared.copies.Source.{Source}
use Rattle.task_kit.specs.declared.copies.Destination.{Destination}
use Rattle.task_kit.specs.declared.progress.TaskProgress.{TaskProgress}
use Rattle.task_kit.specs.declared.tasks.BuiltIn.{BuiltIn}
use Rattle.task_kit.specs.declared.tasks.BuiltIn.TheVariants.{
  Message,
  Warning,
  Error,
  Copy,
  WriteLinesToFile,
  ReadLinesFromFile,
  Delete,
  CreateItem,
  CreateProperty,
}

-- an output with the note of a file that is too large
pub record IsLarge (output : TaskOutput) : Type 0 where
  pub task : List ℕ
  pub path : List ℕ
  pub there : (before : List Note) × (output.notes ≡ before
      ++ Fail (failure_text task (TooLarge path)) ∷ [])

-- two things are equal, or one of the outputs is large
pub data EqualOrLarge (x y : TaskOutput) : Type 0 where
  equal : x ≡ y → EqualOrLarge x y
  first_large : IsLarge x → EqualOrLarge x y
  second_large : IsLarge y → EqualOrLarge x y

-- ---- what is made

record Shifted (a b : TaskProgress) : Type 0 where
  acts : a.acts ≡ b.acts
  items : a.items ≡ b.items

-- the same but for what was written before, or a file is too large
data MadeAlike : Result TaskProgress Failure → Result TaskProgress Failure → Type 0 where
  both_made : (a b : TaskProgress) → Shifted a b → MadeAlike (Ok a) (Ok b)
  both_fail : (failure : Failure) → MadeAlike (Err failure) (Err failure)
  large_first : (path : List ℕ) (r : Result TaskProgress Failure)
      → MadeAlike (Err (TooLarge path)) r
  large_second : (path : List ℕ) (r : Result TaskProgress Failure)
      → MadeAlike r (Err (TooLarge path))

added-alike : (act : Act) (a b : TaskProgress) → Shifted a b → Shifted (added act a) (added act b)
added-alike act a b s = record { acts = ap (λ l. l ++ act ∷ []) s.acts; items = s.items }

act-alike : (told : List ℕ) (act : Act) (a b : TaskProgress) → Shifted a b →
    MadeAlike (with_act told act a) (with_act told act b)
act-alike told act a b s = go (fits act a.written) (fits act b.written)
  where
    go : (x y : Bool) → MadeAlike (if x then Ok (added act a) else Err (TooLarge told))
        (if y then Ok (added act b) else Err (TooLarge told))
    go true true = both_made (added act a) (added act b) (added-alike act a b s)
    go true false = large_second told (Ok (added act a))
    go false y = large_first told (if y then Ok (added act b) else Err (TooLarge told))

file-alike : (told : List ℕ) (put : Put) (a b : TaskProgress) → Shifted a b →
    MadeAlike (with_file told put a) (with_file told put b)
file-alike told put a b s = act-alike told (Write put) a b s

-- acts in turn
data AllAlike : Result TaskProgress (TaskProgress × Failure)
    → Result TaskProgress (TaskProgress × Failure) → Type 0 where
  all_made : (a b : TaskProgress) → Shifted a b → AllAlike (Ok a) (Ok b)
  all_fail : (a b : TaskProgress) (failure : Failure) → Shifted a b →
      AllAlike (Err (a, failure)) (Err (b, failure))
  all_large_first : (a : TaskProgress) (path : List ℕ)
      (r : Result TaskProgress (TaskProgress × Failure)) →
      AllAlike (Err (a, TooLarge path)) r
  all_large_second : (b : TaskProgress) (path : List ℕ)
      (r : Result TaskProgress (TaskProgress × Failure)) →
      AllAlike r (Err (b, TooLarge path))

kept-alike : (a b : TaskProgress) (x y : Result TaskProgress Failure) → Shifted a b → MadeAlike x y
    →
    AllAlike (kept_by a x) (kept_by b y)
kept-alike a b x y s (both_made c d t) = all_made c d t
kept-alike a b x y s (both_fail failure) = all_fail a b failure s
kept-alike a b x y s (large_first path r) = all_large_first a path (kept_by b r)
kept-alike a b x y s (large_second path r) = all_large_second b path (kept_by a r)

progress-alike : {X : Type 0} (act : TaskProgress → X → Result TaskProgress Failure) →
    ((a b : TaskProgress) (x : X) → Shifted a b → MadeAlike (act a x) (act b x)) →
    (xs : List X) (a b : TaskProgress) → Shifted a b
    → AllAlike (made_by act a xs) (made_by act b xs)
progress-alike act f [] a b s = all_made a b s
progress-alike act f (x ∷ xs) a b s = go (act a x) (act b x) (f a b x s) (progress-alike act f xs)
  where
    go : (r q : Result TaskProgress Failure) → MadeAlike r q →
        ((a b : TaskProgress) → Shifted a b → AllAlike (made_by act a xs) (made_by act b xs)) →
        AllAlike (and_then (kept_by a r) (λ next. made_by act next xs))
        (and_then (kept_by b q) (λ next. made_by act next xs))
    go r q (both_made c d t) ih = ih c d t
    go r q (both_fail failure) ih = all_fail a b failure s
    go r q (large_first path y) ih = all_large_first a path (and_then (kept_by b y)
        (λ next. made_by act next xs))
    go r q (large_second path y) ih = all_large_second b path (and_then (kept_by a y)
        (λ next. made_by act next xs))

-- the output
output-alike : (task : List ℕ) (g : TaskProgress → TaskOutput)
    → ((a b : TaskProgress) → Shifted a b → g a ≡ g b) →
    (r q : Result TaskProgress (TaskProgress × Failure)) → AllAlike r q →
    EqualOrLarge (output_with task (g (made_in r)) r) (output_with task (g (made_in q)) q)
output-alike task g h r q (all_made a b s) =
    equal (ap (λ (o : TaskOutput). record {
      ok = o.ok;
      outputs = o.outputs;
      acts = a.acts;
      notes =
          o.notes;
    }) (h a b s) ∙ ap (λ l. record {
      ok = (g b).ok;
      outputs = (g b).outputs;
      acts =
          l;
      notes = (g b).notes;
    }) s.acts)
output-alike task g h r q (all_fail a b failure s) =
    equal (ap (λ (o : TaskOutput). record {
      ok = false;
      outputs = o.outputs;
      acts =
          a.acts;
      notes = o.notes ++ Fail (failure_text task failure) ∷ [];
    }) (h a b s)
    ∙ ap (λ l. record {
      ok = false;
      outputs = (g b).outputs;
      acts = l;
      notes =
          (g b).notes ++ Fail (failure_text task failure) ∷ [];
    }) s.acts)
output-alike task g h r q (all_large_first a path y) =
    first_large (record { task = task; path = path; there = ((g a).notes, refl) })
output-alike task g h r q (all_large_second b path y) =
    second_large (record { task = task; path = path; there = ((g b).notes, refl) })

starts : (n m : ℕ) → Shifted (started n) (started m)
starts n m = record { acts = refl; items = refl }

-- ---- results with an output

abbrev Lifted : Result TaskOutput Failure → Result TaskOutput Failure → Type 0
Lifted (Ok x) (Ok y) = EqualOrLarge x y
Lifted (Ok x) (Err g) = ⊥
Lifted (Err f) (Ok y) = ⊥
Lifted (Err f) (Err g) = f ≡ g

and-lift : {X : Type 0} (x : Result X Failure) (f g : X → Result TaskOutput Failure) →
    ((y : X) → Lifted (f y) (g y)) → Lifted (and_then x f) (and_then x g)
and-lift (Ok y) f g h = h y
and-lift (Err failure) f g h = refl

map-lift : {X : Type 0} (x : Result X Failure) (f g : X → TaskOutput) →
    ((y : X) → EqualOrLarge (f y) (g y)) → Lifted (map_ok f x) (map_ok g x)
map-lift (Ok y) f g h = h y
map-lift (Err failure) f g h = refl

unless-lift : (o : Option Failure) (r q : Result TaskOutput Failure) → Lifted r q →
    Lifted (unless o r) (unless o q)
unless-lift None r q h = h
unless-lift (Some failure) r q h = refl

same-lift : (r : Result TaskOutput Failure) → Lifted r r
same-lift (Ok x) = equal refl
same-lift (Err f) = refl

of-lift : (name : List ℕ) (r q : Result TaskOutput Failure) → Lifted r q →
    EqualOrLarge (output_of name r) (output_of name q)
of-lift name (Ok x) (Ok y) h = h
of-lift name (Ok x) (Err g) h = absurd h
of-lift name (Err f) (Ok y) h = absurd h
of-lift name (Err f) (Err g) h = equal (ap (λ z. output_of name (Err z)) h)

-- ---- Copy

item-alike : (item : Item) (r q : Result TaskProgress Failure) → MadeAlike r q →
    MadeAlike (map_ok (with_item item) r) (map_ok (with_item item) q)
item-alike item r q (both_made a b s) = both_made (with_item item a) (with_item item b)
    (record { acts = s.acts; items = ap (λ l. l ++ item ∷ []) s.items })
item-alike item r q (both_fail failure) = both_fail failure
item-alike item r q (large_first path y) = large_first path (map_ok (with_item item) y)
item-alike item r q (large_second path y) = large_second path (map_ok (with_item item) y)

copied-alike : (v : View) (skip : Bool) (a b : TaskProgress) (c : Source × Destination)
    → Shifted a b →
    MadeAlike (copied v skip a c) (copied v skip b c)
copied-alike v skip a b c s = go (content v c.0.path)
  where
    at : (t : Bool) (bytes : List ℕ) →
        MadeAlike (if t then Ok a else with_file c.1.text (record {
          path = c.1.path;
          bytes =
              bytes;
        }) a) (if t then Ok b else with_file c.1.text (record {
          path = c.1.path;
          bytes =
              bytes;
        }) b)
    at true bytes = both_made a b s
    at false bytes = file-alike c.1.text (record { path = c.1.path; bytes = bytes }) a b s

    go : (o : Option (List ℕ)) → MadeAlike (copied_from o v skip a c) (copied_from o v skip b c)
    go None = both_fail (MissingSource c.0.item.ident)
    go (Some bytes) = item-alike (item_copied c.0 c.1) (written_at v skip bytes c.1 a)
        (written_at v skip bytes c.1 b) (at (skip && is_unchanged (content v c.1.path) bytes) bytes)

all-alike : (v : View) (skip : Bool) (n m : ℕ) (sources : List Source) (to : List Destination) →
    EqualOrLarge (all_copied v skip n sources to) (all_copied v skip m sources to)
all-alike v skip n m sources to =
    output-alike (codes "copy") (λ a. succeeded (copy_outputs a.items))
    (λ a b s. ap (λ l. succeeded (copy_outputs l)) s.items)
    (made_by (copied v skip) (started n) (zip sources to))
    (made_by (copied v skip) (started m) (zip sources to))
    (progress-alike (copied v skip) (λ a b x s. copied-alike v skip a b x s) (zip sources to)
    (started n) (started m) (starts n m))

to-alike : (v : View) (skip : Bool) (n m : ℕ) (sources : List Source)
    (to : Result (List Destination) Failure) → Lifted (copied_to v skip n sources to)
    (copied_to v skip m sources to)
to-alike v skip n m [] to = all-alike v skip n m [] []
to-alike v skip n m (source ∷ sources) to =
    map-lift (and_then to (counted (length (source ∷ sources))))
    (all_copied v skip n (source ∷ sources)) (all_copied v skip m (source ∷ sources))
    (all-alike v skip n m (source ∷ sources))

copy-alike : (dir : List ℕ) (v : View) (params : List Param) (n m : ℕ) →
    Lifted (copy dir v params n) (copy dir v params m)
copy-alike dir v params n m =
    unless-lift (check_known (codes "copy") params) _ _
    (and-lift (all_ok (named_at dir) (items_of (codes "destinationfiles") params)) _ _ (λ named.
    and-lift (all_below dir (text_of (codes "destinationfolder") params)
    (items_of (codes "sourcefiles") params)) _ _ (λ below.
    and-lift (truth_at (codes "skipunchangedfiles") params) _ _ (λ skip.
    and-lift (all_ok (source_at dir) (items_of (codes "sourcefiles") params)) _ _ (λ sources.
    to-alike v skip n m sources (chosen named (not
    (length (text_of (codes "destinationfolder") params) == 0)) below))))))

-- ---- WriteLinesToFile

lines-alike : (v : View) (file path : List ℕ) (overwrite : Bool) (lines : List Item) (n m : ℕ) →
    EqualOrLarge (output_written v file path overwrite lines n)
    (output_written v file path overwrite lines m)
lines-alike v file path overwrite lines n m =
    output-alike (codes "writelinestofile") (λ a. succeeded []) (λ a b s. refl)
    (kept_by (started n) (written_lines v file path overwrite lines (started n)))
    (kept_by (started m) (written_lines v file path overwrite lines (started m)))
    (kept-alike (started n) (started m) (written_lines v file path overwrite lines (started n))
    (written_lines v file path overwrite lines (started m)) (starts n m)
    (go (not overwrite && length lines == 0)))
  where
    put : Put
    put = record { path = path; bytes = text_after overwrite (content v path) lines }

    go : (t : Bool) → MadeAlike (if t then Ok (started n) else with_file file (record {
      path =
          path;
      bytes = text_after overwrite (content v path) lines;
    }) (started n))
        (if t then Ok (started m) else with_file file (record {
          path = path;
          bytes =
              text_after overwrite (content v path) lines;
        }) (started m))
    go true = both_made (started n) (started m) (starts n m)
    go false = file-alike file (record {
      path = path;
      bytes =
          text_after overwrite (content v path) lines;
    }) (started n) (started m) (starts n m)

write-alike : (dir : List ℕ) (v : View) (params : List Param) (n m : ℕ) →
    Lifted (write_lines dir v params n) (write_lines dir v params m)
write-alike dir v params n m =
    unless-lift (check_known (codes "writelinestofile") params) _ _
    (and-lift (needed_text (codes "file") params) _ _ (λ file.
    and-lift (path_in dir (codes "file") file) _ _ (λ path.
    map-lift (truth_at (codes "overwrite") params) _ _
    (λ overwrite. lines-alike v file path overwrite (items_of (codes "lines") params) n m))))

-- ---- all tasks

done-alike : (task : BuiltIn) (dir : List ℕ) (v : View) (params : List Param) (n m : ℕ) →
    Lifted (done task dir v params n) (done task dir v params m)
done-alike Message dir v params n m = same-lift (done Message dir v params n)
done-alike Warning dir v params n m = same-lift (done Warning dir v params n)
done-alike Error dir v params n m = same-lift (done Error dir v params n)
done-alike Copy dir v params n m = copy-alike dir v params n m
done-alike WriteLinesToFile dir v params n m = write-alike dir v params n m
done-alike ReadLinesFromFile dir v params n m = same-lift (done ReadLinesFromFile dir v params n)
done-alike Delete dir v params n m = same-lift (done Delete dir v params n)
done-alike CreateItem dir v params n m = same-lift (done CreateItem dir v params n)
done-alike CreateProperty dir v params n m = same-lift (done CreateProperty dir v params n)

-- both are answered here, or neither
abbrev pub AnswersAlike : ToolAnswer → ToolAnswer → Type 0
AnswersAlike Unknown Unknown = Unit {0}
AnswersAlike Unknown (MadeBy y) = ⊥
AnswersAlike (MadeBy x) Unknown = ⊥
AnswersAlike (MadeBy x) (MadeBy y) = EqualOrLarge x y

answer-alike : (o : Option BuiltIn) (name dir : List ℕ) (v : View) (params : List Param) (n m : ℕ) →
    AnswersAlike (answer_of o name dir v params n) (answer_of o name dir v params m)
answer-alike None name dir v params n m = tt
answer-alike (Some task) name dir v params n m =
    of-lift name (done task dir v params n) (done task dir v params m)
    (done-alike task dir v params n m)

pub answers-alike : (name dir : List ℕ) (v : View) (params : List Param) (n m : ℕ) →
    AnswersAlike (answer name dir v params n) (answer name dir v params m)
answers-alike name dir v params n m = answer-alike (value_at name built_in) name dir v params n m

tool-alike : (a b : TaskProgress) (act : Act) → Shifted a b →
    MadeAlike (acted_by_tool a act) (acted_by_tool b act)
tool-alike a b act s = go (is_normal (act_path act))
  where
    path : List ℕ
    path = act_path act

    go : (t : Bool) → MadeAlike (if t then with_act path act a else Err (BadPath path))
        (if t then with_act path act b else Err (BadPath path))
    go true = act-alike path act a b s
    go false = both_fail (BadPath path)

pub tools-alike : (name : List ℕ) (n m : ℕ) (a : ToolAnswer) →
    EqualOrLarge (foreign_output name n a) (foreign_output name m a)
tools-alike name n m Unknown = equal refl
tools-alike name n m (MadeBy output) =
    output-alike name (λ a. output) (λ a b s. refl)
    (made_by acted_by_tool (started n) output.acts)
    (made_by acted_by_tool (started m) output.acts)
    (progress-alike acted_by_tool (λ a b x s. tool-alike a b x s) output.acts (started n)
    (started m)
    (starts n m))
