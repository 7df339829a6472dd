-- How deep the elements of a file are, and that none of a tree's is deeper than the deepest.
use Rattle.std.proofs.Common.{
  ◌≡◌,
  ℕ,
  suc,
  ◌<◌,
  ◌≤◌,
  ◌+◌,
  ◌*◌,
  List,
  [],
  ◌∷◌,
  max,
  map,
  Bool,
  true,
  false,
  Result,
  Ok,
  Err,
  Option,
  Some,
  if◌then◌else◌,
  ap,
  arith,
  ◌-◌,
  ◌++◌,
  length,
  length-append,
  ◌∙◌,
}
use Rattle.std.specs.Str.{bytes_eq}
use Rattle.file_store.specs.Files.{file_at}
use Rattle.file_store.specs.declared.tree.File.{File}
use Rattle.msb_elements.specs.Nodes.{Node, node, Nodes, no_nodes, more, children_in}
use Rattle.msb_elements.specs.View.{view, views}
use Rattle.msb_elements.specs.declared.element.Element.{Element}
use Rattle.build_world.specs.Readings.{project_of}
use Rattle.build_world.specs.declared.fault.EvalFault.{EvalFault}
use Rattle.msb_properties.specs.Laid.{nodes_in}
use Rattle.msb_properties.proofs.Steps.{nodes_split}

abbrev mutual
  pub height : Node → ℕ
  height (node place name attributes text children) = suc (heights children)

  pub heights : Nodes → ℕ
  heights no_nodes = 0
  heights (more n ns) = max (height n) (heights ns)

pub height_below : (n : Node) → heights (nodes_in n) < height n
height_below (node place name attributes text children) = omega arith

pub heights_rest : (left rest : List Element) (e : Element) (most : ℕ) → left ≡ e ∷ rest
    → heights (views left) ≤ most → heights (views rest) ≤ most
heights_rest left rest e most is below = let same : heights (views left)
    ≡ heights (views (e ∷ rest)) = ap (λ es. heights (views es)) is in omega (arith, same, below)

pub height_first : (left rest : List Element) (e : Element) (most : ℕ) → left ≡ e ∷ rest
    → heights (views left) ≤ most → height (view e) ≤ most
height_first left rest e most is below = let same : heights (views left)
    ≡ heights (views (e ∷ rest)) = ap (λ es. heights (views es)) is in omega (arith, same, below)

-- what an element is split into is less deep
pub below_split : (n : Node) (es : List Element) → map view es ≡ children_in n
    → heights (views es) < height n
below_split n es are = rw (nodes_split n es are) (height_below n)

-- above what a file holds
abbrev pub above : Result Node EvalFault → ℕ
above (Ok root) = suc (height root)
above (Err fault) = 0

abbrev pub above_all : List File → ℕ
above_all [] = 0
above_all (f ∷ fs) = max (above (project_of f)) (above_all fs)

above_either : (b : Bool) (g f : File) (rest : Option File) (most : ℕ)
    → (rest ≡ Some f → above (project_of f) ≤ most) → (if b then Some g else rest) ≡ Some f
    → above (project_of f) ≤ max (above (project_of g)) most
above_either true g f rest most later is = let same : g ≡ f = cc in rw same (omega arith)
above_either false g f rest most later is = omega (arith, later is)

pub above_found : (path : List ℕ) (fs : List File) (f : File) → file_at path fs ≡ Some f
    → above (project_of f) ≤ above_all fs
above_found path [] f found = absurd (cc)
above_found path (g ∷ fs) f found = above_either (bytes_eq g.path path) g f (file_at path fs)
    (above_all fs) (above_found path fs f) found

-- the project of a file is less deep than that
pub less_deep : (path : List ℕ) (fs : List File) (f : File) (root : Node) → file_at path fs ≡ Some f
    → project_of f ≡ Ok root → height root < above_all fs
less_deep path fs f root found is = let at_most = above_found path fs f found in let same : above
    (project_of f) ≡ suc (height root) = ap above is in omega (arith, at_most, same)

-- a file of a chain takes one from the room, and is above what it holds
pub lower : (room less deep most : ℕ) → less + 1 ≡ room → deep < most
    → 8 * (less * most + deep) + 5 < 8 * (room * most)
lower room less deep most is below = rw (← is) (grind arith)

-- how many files a chain may still have, with one more
pub one_less : (chain longer : List (List ℕ)) (path : List ℕ) → length chain < 64
    → longer ≡ chain ++ path ∷ [] → (64 - length longer) + 1 ≡ 64 - length chain
one_less chain longer path short is = let more : length longer ≡ length chain + 1 = ap length is
    ∙ length-append chain (path ∷ []) in omega (arith, more, short)
