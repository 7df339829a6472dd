-- Which instances, runs and requests are the same. Texts and names are compared by their bytes.
use Rattle.std.specs.Prelude.{◌≡◌, Bool, true, false, ◌||◌, ◌&&◌, List, [], ◌∷◌, ◌++◌}
use Rattle.std.specs.Cmp.Lexicographic.{pointwise, slice_cmp}
use Rattle.std.specs.Hash.{HashWrites, str, slice}
use Rattle.std.specs.declared.cmp.Ordering.{Ordering}
use Rattle.std.specs.Ordering.{nat_cmp, ordering_then}
use Rattle.std.specs.Str.{bytes_eq}
use Rattle.msb_laws.specs.Words.{Name, Text}
use Rattle.msb_values.specs.Equal.{same_pairs}
use Rattle.msb_values.specs.declared.key.InstanceKey.{InstanceKey}
use Rattle.result_cache.specs.declared.run.RunId.{RunId}
use Rattle.result_cache.specs.declared.request.RequestKey.{RequestKey}

-- one project: the same path and the same global properties. (MSBuild task: project instances)
unfoldable pub same_instance : InstanceKey → InstanceKey → Bool
same_instance a b = bytes_eq a.path b.path && same_pairs a.globals b.globals

-- one target of one instance
unfoldable pub same_run : RunId → RunId → Bool
same_run a b = same_instance a.instance b.instance && bytes_eq a.target b.target

-- the order of names with values, of instances and of runs, by bytes from the first difference on
abbrev pub pair_order : Name × Text → Name × Text → Ordering
pair_order p q = ordering_then (slice_cmp nat_cmp p.0 q.0) (slice_cmp nat_cmp p.1 q.1)

abbrev pub instance_order : InstanceKey → InstanceKey → Ordering
instance_order a b = ordering_then (slice_cmp nat_cmp a.path b.path)
    (slice_cmp pair_order a.globals b.globals)

abbrev pub run_order : RunId → RunId → Ordering
run_order a b = ordering_then (instance_order a.instance b.instance)
    (slice_cmp nat_cmp a.target b.target)

-- what a hash is fed of a run
abbrev pub run_writes : RunId → HashWrites
run_writes run = (str run.instance.path ++ slice (λ p. str p.0 ++ str p.1) run.instance.globals)
    ++ str run.target

-- the run is one of these
abbrev pub is_in : RunId → List RunId → Bool
is_in run [] = false
is_in run (other ∷ runs) = same_run other run || is_in run runs

-- no run is there twice
abbrev pub AreDistinct : List RunId → Type 0
AreDistinct [] = Unit {0}
AreDistinct (run ∷ runs) = (is_in run runs ≡ false) × AreDistinct runs

-- both hold, or neither
abbrev pub same_truth : Bool → Bool → Bool
same_truth true true = true
same_truth true false = false
same_truth false true = false
same_truth false false = true

-- one instance, the same targets, and named in both or in neither
unfoldable pub same_key : RequestKey → RequestKey → Bool
same_key a b = same_instance a.instance b.instance
    && (pointwise bytes_eq a.targets b.targets && same_truth a.named b.named)

-- the same requests in the same order
abbrev pub same_keys : List RequestKey → List RequestKey → Bool
same_keys = pointwise same_key
