-- Which targets take their items one by one: each item is an input, and one output is made of each.
-- (Incremental builds: transforms of an item list)
use Rattle.std.specs.Prelude.{List, [], ◌∷◌, Bool, true, false, Option, Some, None}
use Rattle.std.specs.Str.{bytes_eq}
use Rattle.msb_laws.specs.Words.{Name}
use Rattle.msb_values.specs.Keys.{key_of}
use Rattle.msb_expression.specs.declared.expression.Part.{Part}
use Rattle.msb_expression.specs.declared.expression.Part.TheVariants.{Items}
use Rattle.msb_expression.specs.declared.expression.Piece.{Piece}
use Rattle.msb_expression.specs.declared.expression.Step.{Step}
use Rattle.msb_expression.specs.declared.expression.Step.TheVariants.{Transform}

-- the item type of a reference without a step and without a separator
abbrev pub plain_type : Name → List Step → Option (List Piece) → Option Name
plain_type kind [] None = key_of kind
plain_type kind [] (Some separator) = None
plain_type kind (step ∷ steps) separator = None

-- the item type of a text that is just `@(X)`, as it is read
abbrev pub whole_list : List Part → Option Name
whole_list (Items kind steps separator ∷ []) = plain_type kind steps separator
whole_list parts = None

-- the item type of a reference with one step, a transform, and without a separator
abbrev pub transformed_type : Name → List Step → Option (List Piece) → Option Name
transformed_type kind (Transform pieces ∷ []) None = key_of kind
transformed_type kind steps separator = None

-- the item type of a text that is just `@(X->'s')`, as it is read
abbrev pub whole_transform : List Part → Option Name
whole_transform (Items kind steps separator ∷ []) = transformed_type kind steps separator
whole_transform parts = None

abbrev pub if_equal : Bool → Name → Option Name
if_equal true kind = Some kind
if_equal false kind = None

-- the one type of two
abbrev pub same_type : Option Name → Option Name → Option Name
same_type (Some kind) (Some other) = if_equal (bytes_eq kind other) kind
same_type (Some kind) None = None
same_type None other = None

-- the item type X where Inputs is just `@(X)` and Outputs is just `@(X->'s')`
abbrev pub item_type : (inputs outputs : List Part) → Option Name
item_type inputs outputs = same_type (whole_list inputs) (whole_transform outputs)
