-- What is laid out of an element, step by step.
use Rattle.std.proofs.Common.{
  ◌≡◌,
  ℕ,
  suc,
  List,
  [],
  ◌∷◌,
  ◌++◌,
  ◌+◌,
  map,
  true,
  false,
  Some,
  Result,
  Ok,
  Err,
  refl,
  sym,
  ap,
  ◌∙◌,
  arith,
}
use Rattle.file_store.specs.Files.{file_at}
use Rattle.file_store.specs.declared.tree.File.{File}
use Rattle.msb_elements.specs.Nodes.{
  Node,
  node,
  Nodes,
  no_nodes,
  more,
  name_of,
  children_in,
  list_of,
  without_children,
}
use Rattle.msb_elements.specs.View.{view, views, nodes_from}
use Rattle.msb_elements.specs.declared.element.Element.{Element}
use Rattle.build_world.specs.Elements.{at}
use Rattle.build_world.specs.Readings.{project_of}
use Rattle.build_world.specs.declared.fault.EvalFault.{EvalFault}
use Rattle.msb_laws.specs.Results.{and_then}
use Rattle.msb_properties.specs.declared.part.Part.TheVariants.{
  Imported,
  Grouped,
  Chosen,
  PassedOver,
  LaidOut,
}
use Rattle.msb_properties.specs.Settings.{Setting, Properties}
use Rattle.msb_properties.specs.Propertied.{properties_of, holds_in_file, holds_in_project}
use Rattle.msb_properties.specs.Laid.{
  Layout,
  Importing,
  part_of,
  extended,
  with_file,
  lay_import,
  lay,
  lay_all,
  lay_chosen,
  nodes_in,
  lay_project,
  lay_found,
  lay_within,
}

nodes_back : (ns : Nodes) → nodes_from (list_of ns) ≡ ns
nodes_back no_nodes = refl
nodes_back (more n ns) = ap (more n) (nodes_back ns)

-- the children that an element is split into
pub nodes_split : (n : Node) (es : List Element) → map view es ≡ children_in n
    → views es ≡ nodes_in n
nodes_split (node place name attributes text children) es are = ap nodes_from are
    ∙ nodes_back children

-- an element of a file, by what becomes of it
pub laid_import : (imports : Importing) (s : Setting) (chain : List (List ℕ)) (file : List ℕ)
    (l : Layout) (n : Node) → part_of (name_of n) ≡ Imported
    → lay imports s chain file l n ≡ lay_import imports s chain l (at file n)
unfolding lay
laid_import imports s chain file l (node place name attributes text children) is = rw (is, lay) refl

pub laid_chosen : (imports : Importing) (s : Setting) (chain : List (List ℕ)) (file : List ℕ)
    (l : Layout) (n : Node) → part_of (name_of n) ≡ Chosen
    → lay imports s chain file l n ≡ lay_chosen imports s chain file l (nodes_in n)
unfolding lay
laid_chosen imports s chain file l (node place name attributes text children) is = rw (is, lay) refl

pub laid_over : (imports : Importing) (s : Setting) (chain : List (List ℕ)) (file : List ℕ)
    (l : Layout) (n : Node) → part_of (name_of n) ≡ PassedOver → lay imports s chain file l n ≡ Ok l
unfolding lay
laid_over imports s chain file l (node place name attributes text children) is = rw (is, lay) refl

pub laid_out : (imports : Importing) (s : Setting) (chain : List (List ℕ)) (file : List ℕ)
    (l : Layout) (n : Node) → part_of (name_of n) ≡ LaidOut
    → lay imports s chain file l n ≡ extended s l (at file n)
unfolding lay
laid_out imports s chain file l (node place name attributes text children) is = rw (is, lay) refl

-- an ImportGroup by its Condition
pub group_held : (imports : Importing) (s : Setting) (chain : List (List ℕ)) (file : List ℕ)
    (l : Layout) (n : Node) (p : Properties) → part_of (name_of n) ≡ Grouped
    → properties_of s l.elements ≡ Ok p → holds_in_file s p (at file n) ≡ Ok true
    → lay imports s chain file l n ≡ lay_all imports s chain file l (nodes_in n)
unfolding lay
group_held imports s chain file l (node place name attributes text children) p is are holds = rw
    (is, lay) (rw (are, holds) refl)

pub group_not : (imports : Importing) (s : Setting) (chain : List (List ℕ)) (file : List ℕ)
    (l : Layout) (n : Node) (p : Properties) → part_of (name_of n) ≡ Grouped
    → properties_of s l.elements ≡ Ok p → holds_in_file s p (at file n) ≡ Ok false
    → lay imports s chain file l n ≡ Ok l
unfolding lay
group_not imports s chain file l (node place name attributes text children) p is are holds = rw
    (is, lay) (rw (are, holds) refl)

pub group_fault : (imports : Importing) (s : Setting) (chain : List (List ℕ)) (file : List ℕ)
    (l : Layout) (n : Node) (p : Properties) (f : EvalFault) → part_of (name_of n) ≡ Grouped
    → properties_of s l.elements ≡ Ok p → holds_in_file s p (at file n) ≡ Err f
    → lay imports s chain file l n ≡ Err f
unfolding lay
group_fault imports s chain file l (node place name attributes text children) p f is are fails = rw
    (is, lay) (rw (are, fails) refl)

-- each of some elements in turn
pub all_none : (imports : Importing) (s : Setting) (chain : List (List ℕ)) (file : List ℕ)
    (l : Layout) → lay_all imports s chain file l no_nodes ≡ Ok l
unfolding lay_all
all_none imports s chain file l = refl

pub all_more : (imports : Importing) (s : Setting) (chain : List (List ℕ)) (file : List ℕ)
    (l : Layout) (n : Node) (ns : Nodes)
    → lay_all imports s chain file l (more n ns)
    ≡ and_then (lay imports s chain file l n) (λ next. lay_all imports s chain file next ns)
unfolding lay_all
all_more imports s chain file l n ns = refl

-- the children of a Choose by the Condition of the first
pub chosen_none : (imports : Importing) (s : Setting) (chain : List (List ℕ)) (file : List ℕ)
    (l : Layout) → lay_chosen imports s chain file l no_nodes ≡ Ok l
unfolding lay_chosen
chosen_none imports s chain file l = refl

pub chosen_held : (imports : Importing) (s : Setting) (chain : List (List ℕ)) (file : List ℕ)
    (l : Layout) (n : Node) (ns : Nodes) (p : Properties)
    → properties_of s l.elements ≡ Ok p → holds_in_project s p (at file n) ≡ Ok true
    → lay_chosen imports s chain file l (more n ns)
    ≡ lay_all imports s chain file l (nodes_in n)
unfolding lay_chosen
chosen_held imports s chain file l (node place name attributes text children) ns p are holds = rw
    (are, holds) refl

pub chosen_not : (imports : Importing) (s : Setting) (chain : List (List ℕ)) (file : List ℕ)
    (l : Layout) (n : Node) (ns : Nodes) (p : Properties)
    → properties_of s l.elements ≡ Ok p → holds_in_project s p (at file n) ≡ Ok false
    → lay_chosen imports s chain file l (more n ns) ≡ lay_chosen imports s chain file l ns
unfolding lay_chosen
chosen_not imports s chain file l (node place name attributes text children) ns p are holds = rw
    (are, holds) refl

pub chosen_fault : (imports : Importing) (s : Setting) (chain : List (List ℕ)) (file : List ℕ)
    (l : Layout) (n : Node) (ns : Nodes) (p : Properties) (f : EvalFault)
    → properties_of s l.elements ≡ Ok p → holds_in_project s p (at file n) ≡ Err f
    → lay_chosen imports s chain file l (more n ns) ≡ Err f
unfolding lay_chosen
chosen_fault imports s chain file l (node place name attributes text children) ns p f are fails = rw
    (are, fails) refl

-- a turn of a loop over some elements, by what is left of them
pub all_goes : (imports : Importing) (s : Setting) (chain : List (List ℕ)) (file : List ℕ)
    (l next : Layout) (left rest : List Element) (e : Element) (whole : Result Layout EvalFault)
    → left ≡ e ∷ rest → lay_all imports s chain file l (views left) ≡ whole
    → lay imports s chain file l (view e) ≡ Ok next
    → lay_all imports s chain file next (views rest) ≡ whole
all_goes imports s chain file l next left rest e whole is so_far gives =
    sym (sym so_far ∙ ap (λ es. lay_all imports s chain file l (views es)) is
    ∙ all_more imports s chain file l (view e) (views rest)
    ∙ ap (λ r. and_then r (λ n. lay_all imports s chain file n (views rest))) gives)

pub all_stops : (imports : Importing) (s : Setting) (chain : List (List ℕ)) (file : List ℕ)
    (l : Layout) (left rest : List Element) (e : Element) (whole : Result Layout EvalFault)
    (f : EvalFault)
    → left ≡ e ∷ rest → lay_all imports s chain file l (views left) ≡ whole
    → lay imports s chain file l (view e) ≡ Err f → whole ≡ Err f
all_stops imports s chain file l left rest e whole f is so_far fails =
    sym so_far ∙ ap (λ es. lay_all imports s chain file l (views es)) is
    ∙ all_more imports s chain file l (view e) (views rest)
    ∙ ap (λ r. and_then r (λ n. lay_all imports s chain file n (views rest))) fails

pub all_ends : (imports : Importing) (s : Setting) (chain : List (List ℕ)) (file : List ℕ)
    (l : Layout) (left : List Element) (whole : Result Layout EvalFault)
    → left ≡ [] → lay_all imports s chain file l (views left) ≡ whole → whole ≡ Ok l
all_ends imports s chain file l left whole is so_far = sym so_far
    ∙ ap (λ es. lay_all imports s chain file l (views es)) is ∙ all_none imports s chain file l

pub chosen_goes : (imports : Importing) (s : Setting) (chain : List (List ℕ)) (file : List ℕ)
    (l : Layout) (p : Properties) (left rest : List Element) (e : Element)
    (whole : Result Layout EvalFault)
    → left ≡ e ∷ rest → lay_chosen imports s chain file l (views left) ≡ whole
    → properties_of s l.elements ≡ Ok p → holds_in_project s p (at file (view e)) ≡ Ok false
    → lay_chosen imports s chain file l (views rest) ≡ whole
chosen_goes imports s chain file l p left rest e whole is so_far are holds =
    sym (sym so_far ∙ ap (λ es. lay_chosen imports s chain file l (views es)) is
    ∙ chosen_not imports s chain file l (view e) (views rest) p are holds)

pub chosen_takes : (imports : Importing) (s : Setting) (chain : List (List ℕ)) (file : List ℕ)
    (l : Layout) (p : Properties) (left rest : List Element) (e : Element)
    (whole : Result Layout EvalFault)
    → left ≡ e ∷ rest → lay_chosen imports s chain file l (views left) ≡ whole
    → properties_of s l.elements ≡ Ok p → holds_in_project s p (at file (view e)) ≡ Ok true
    → whole ≡ lay_all imports s chain file l (nodes_in (view e))
chosen_takes imports s chain file l p left rest e whole is so_far are holds =
    sym so_far ∙ ap (λ es. lay_chosen imports s chain file l (views es)) is
    ∙ chosen_held imports s chain file l (view e) (views rest) p are holds

pub chosen_stops : (imports : Importing) (s : Setting) (chain : List (List ℕ)) (file : List ℕ)
    (l : Layout) (p : Properties) (left rest : List Element) (e : Element)
    (whole : Result Layout EvalFault) (f : EvalFault)
    → left ≡ e ∷ rest → lay_chosen imports s chain file l (views left) ≡ whole
    → properties_of s l.elements ≡ Ok p → holds_in_project s p (at file (view e)) ≡ Err f
    → whole ≡ Err f
chosen_stops imports s chain file l p left rest e whole f is so_far are fails =
    sym so_far ∙ ap (λ es. lay_chosen imports s chain file l (views es)) is
    ∙ chosen_fault imports s chain file l (view e) (views rest) p f are fails

pub chosen_ends : (imports : Importing) (s : Setting) (chain : List (List ℕ)) (file : List ℕ)
    (l : Layout) (left : List Element) (whole : Result Layout EvalFault)
    → left ≡ [] → lay_chosen imports s chain file l (views left) ≡ whole → whole ≡ Ok l
chosen_ends imports s chain file l left whole is so_far = sym so_far
    ∙ ap (λ es. lay_chosen imports s chain file l (views es)) is
    ∙ chosen_none imports s chain file l

abbrev pub laid : Layout → Result Layout EvalFault
laid l = Ok l

-- a file's Project element, and then what it is split into
pub project_laid : (imports : Importing) (s : Setting) (chain : List (List ℕ)) (file : List ℕ)
    (l begun next : Layout) (root alone : Node) (es : List Element)
    → laid (with_file l file) ≡ laid begun → extended s begun (at file alone) ≡ Ok next
    → alone ≡ without_children root → map view es ≡ children_in root
    → lay_project imports s chain file l root ≡ lay_all imports s chain file next (views es)
project_laid imports s chain file l begun next root alone es begins gives is are =
    let same : with_file l file ≡ begun = cc in
    ap
    (λ b. and_then (extended s b (at file (without_children root)))
    (λ m. lay_all imports s chain file m (nodes_in root))) same
    ∙ ap
    (λ n. and_then (extended s begun (at file n))
    (λ m. lay_all imports s chain file m (nodes_in root))) (sym is)
    ∙ ap (λ r. and_then r (λ m. lay_all imports s chain file m (nodes_in root))) gives
    ∙ ap (lay_all imports s chain file next) (sym (nodes_split root es are))

-- a file that is there, with room for it
pub file_laid : (s : Setting) (chain : List (List ℕ)) (path : List ℕ) (l : Layout) (room less : ℕ)
    (file : File) → less + 1 ≡ room → file_at path s.files ≡ Some file
    → lay_within room s chain path l ≡ and_then (project_of file)
    (λ root. lay_project (lay_within less s) s (chain ++ path ∷ []) file.path l root)
file_laid s chain path l room less file is found =
    let one : room ≡ suc less = omega (arith, is) in
    ap (λ n. lay_within n s chain path l) one
    ∙ ap (lay_found (lay_within less s) s (chain ++ path ∷ []) l) found

pub file_stops : (s : Setting) (chain : List (List ℕ)) (path : List ℕ) (l : Layout) (room less : ℕ)
    (file : File) (f : EvalFault) → less + 1 ≡ room → file_at path s.files ≡ Some file
    → project_of file ≡ Err f → lay_within room s chain path l ≡ Err f
file_stops s chain path l room less file f is found fails =
    file_laid s chain path l room less file is found
    ∙ ap
    (λ r.
    and_then r
    (λ root. lay_project (lay_within less s) s (chain ++ path ∷ []) file.path l root)) fails

pub file_goes : (s : Setting) (chain longer : List (List ℕ)) (path : List ℕ) (l : Layout)
    (room less : ℕ) (file : File) (root : Node) → less + 1 ≡ room → file_at path s.files ≡ Some file
    → longer ≡ chain ++ path ∷ [] → project_of file ≡ Ok root
    → lay_within room s chain path l ≡ lay_project (lay_within less s) s longer file.path l root
file_goes s chain longer path l room less file root is found are gives =
    file_laid s chain path l room less file is found
    ∙ ap
    (λ r.
    and_then r
    (λ root. lay_project (lay_within less s) s (chain ++ path ∷ []) file.path l root)) gives
    ∙ ap (λ c. lay_project (lay_within less s) s c file.path l root) (sym are)
