-- The texts by which an element in a target is batched, and its buckets. (MSBuild batching)
use Rattle.std.specs.Prelude.{
  List,
  [],
  ◌∷◌,
  ◌++◌,
  Bool,
  true,
  false,
  Option,
  Some,
  None,
  Result,
  Ok,
  Err,
  codes,
}
use Rattle.std.specs.List.{flat_map, list_any}
use Rattle.std.specs.Str.{bytes_eq}
use Rattle.msb_laws.specs.Words.{Text, Name}
use Rattle.msb_laws.specs.Results.{and_then, map_ok, all_ok}
use Rattle.msb_values.specs.declared.cause.Cause.{Cause}
use Rattle.msb_elements.specs.Nodes.{attributes_of, inner_text}
use Rattle.msb_expression.specs.declared.expression.Expr.{Expr}
use Rattle.msb_expression.specs.Reading.{reading}
use Rattle.msb_expand.specs.declared.lens.Bucket.{Bucket}
use Rattle.msb_expand.specs.Scenes.{Scene}
use Rattle.msb_expand.specs.Written.{or_unread}
use Rattle.msb_condition.specs.Machine.{Refusal}
use Rattle.msb_condition.specs.Reading.{condition_of}
use Rattle.msb_condition.specs.Texts.{texts_of}
use Rattle.msb_condition.specs.Trees.{Tree}
use Rattle.msb_condition.specs.Written.{refusal_cause}
use Rattle.msb_batching.specs.Buckets.{buckets_value}
use Rattle.msb_batching.specs.Causes.{cause_of}
use Rattle.msb_batching.specs.declared.faults.BatchFault.{BatchFault}
use Rattle.build_world.specs.declared.fault.EvalFault.{EvalFault}
use Rattle.build_world.specs.Elements.{At, children_of, attribute_of, or_fault}

-- what each gives, one after another, or the first fault
abbrev pub joined_ok : {X Y E : Type 0} → (X → Result (List Y) E) → List X → Result (List Y) E
joined_ok f xs = map_ok (flat_map (λ ys. ys)) (all_ok f xs)

-- a text, as an expression
abbrev pub text_read : Text → Result (List Expr) Cause
text_read written = map_ok (λ parts. record { parts = parts } ∷ []) (or_unread (reading written))

-- the texts of a Condition, from the left
abbrev pub texts_or_cause : Result Tree Refusal → Result (List Expr) Cause
texts_or_cause (Ok tree) = Ok (texts_of tree)
texts_or_cause (Err refusal) = Err (refusal_cause refusal)

abbrev pub condition_read : Option Text → Result (List Expr) Cause
condition_read None = Ok []
condition_read (Some written) = texts_or_cause (condition_of written)

-- an attribute, unless it is one of those that have no meaning here
abbrev pub attribute_if : Bool → Bool → Text → Result (List Expr) Cause
attribute_if true is_condition written = Ok []
attribute_if false true written = condition_read (Some written)
attribute_if false false written = text_read written

abbrev pub attribute_read : List Text → Text × Text → Result (List Expr) Cause
attribute_read ignored pair = attribute_if (list_any (bytes_eq pair.0) ignored)
    (bytes_eq pair.0 (codes "Condition")) pair.1

-- of a child the Condition, and then the text
abbrev pub inner_read : At → Result (List Expr) Cause
inner_read e = and_then (condition_read (attribute_of (codes "Condition") e))
    (λ condition. map_ok (λ text. condition ++ text) (text_read (inner_text e.node)))

abbrev pub child_read : At → Result (List Expr) EvalFault
child_read e = or_fault e (inner_read e)

-- the attributes in byte order of their names, then the element's own text, then its children
abbrev pub own_read : List Text → At → Result (List Expr) Cause
own_read ignored e = and_then (joined_ok (attribute_read ignored) (attributes_of e.node))
    (λ attributes. map_ok (λ text. attributes ++ text) (text_read (inner_text e.node)))

abbrev pub texts_read : List Text → At → Result (List Expr) EvalFault
texts_read ignored e = and_then (or_fault e (own_read ignored e))
    (λ own. map_ok (λ children. own ++ children) (joined_ok child_read (children_of e)))

abbrev pub or_batch_cause : Result (List Bucket) BatchFault → Result (List Bucket) Cause
or_batch_cause (Ok buckets) = Ok buckets
or_batch_cause (Err fault) = Err (cause_of fault)

-- the buckets by texts, and of an item element by its own type as well; a fault of batching is one
-- of the element, also for a child's text
abbrev pub buckets_by : Scene → At → Option Name → List Expr → Result (List Bucket) EvalFault
buckets_by scene e own texts = or_fault e (or_batch_cause (buckets_value scene texts own))

-- The buckets of an element. All texts are read first, so that one that has no reading comes ahead
-- of any other fault.
abbrev pub element_buckets : Scene → List Text → At → Option Name
    → Result (List Bucket) EvalFault
element_buckets scene ignored e own = and_then (texts_read ignored e) (buckets_by scene e own)

-- the buckets of an element by its own texts, without those of its children
abbrev pub own_buckets : Scene → List Text → At → Result (List Bucket) EvalFault
own_buckets scene ignored e = and_then (or_fault e (own_read ignored e)) (buckets_by scene e None)
