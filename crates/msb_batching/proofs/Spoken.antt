-- What is spoken of, part after part, is what the texts speak of.
use Rattle.std.proofs.Common.{
  ◌≡◌,
  ℕ,
  Bool,
  true,
  ◌&&◌,
  List,
  [],
  ◌∷◌,
  ◌++◌,
  refl,
  sym,
  ap,
  ◌∙◌,
  Option,
  Some,
  None,
  option_to_list,
}
use Rattle.std.specs.List.{flat_map}
use Rattle.std.specs.Str.{bytes_eq}
use Rattle.std.proofs.lemmas.Bool.{and_parts}
use Rattle.std.proofs.lemmas.List.Sums.{fold-append}
use Rattle.std.proofs.lemmas.List.Concat.{flat_map-cons}
use Rattle.std.proofs.lemmas.Slice.Eq.{bytes_eq-Decides}
use Rattle.indexmap.specs.IndexSet.{insert_key, insert_all}
use Rattle.msb_expression.specs.declared.expression.Expr.{Expr}
use Rattle.msb_expression.specs.declared.expression.Part.{Part}
use Rattle.msb_expand.specs.Tokens.{is_qualifier}
use Rattle.msb_batching.specs.Distinct.{distinct}
use Rattle.msb_batching.specs.References.{
  Spoken,
  spoken,
  same_reference,
  part_references,
  part_names,
  part_qualifiers,
  part_mentions,
  of_parts,
}
use Rattle.msb_batching.specs.Growing.{nothing, with_part, with_parts, with_texts, with_named}
use Rattle.msb_batching.proofs.Distinct.{Transitive, insert_all-distinct}

pub bytes_transitive : Transitive bytes_eq
bytes_transitive a b c p q =
    (bytes_eq-Decides a c).1 ((bytes_eq-Decides a b).0 p ∙ (bytes_eq-Decides b c).0 q)

qualifier_transitive : Transitive is_qualifier
qualifier_transitive None None None p q = refl
qualifier_transitive None None (Some c) p q = q
qualifier_transitive None (Some b) c p q = absurd cc
qualifier_transitive (Some a) None c p q = absurd cc
qualifier_transitive (Some a) (Some b) None p q = q
qualifier_transitive (Some a) (Some b) (Some c) p q = bytes_transitive a b c p q

and_both : (a b : Bool) → a ≡ true → b ≡ true → (a && b) ≡ true
and_both a b p q = ap (λ t. t && b) p ∙ q

pub reference_transitive : Transitive same_reference
reference_transitive a b c p q =
    let first = and_parts (is_qualifier a.kind b.kind) (bytes_eq a.name b.name) p in
    let second = and_parts (is_qualifier b.kind c.kind) (bytes_eq b.name c.name) q in
    and_both _ _ (qualifier_transitive a.kind b.kind c.kind first.0 second.0)
    (bytes_transitive a.name b.name c.name first.1 second.1)

-- any of the four lists grows by what is of each part
module _ {X : Type 0} (same : X → X → Bool) (of : Part → List X) (list : Spoken → List X)
    (grows : (s : Spoken) (part : Part) → list (with_part s part)
    ≡ insert_all same (list s) (of part)) where
  grown_by_parts : (parts : List Part) (s : Spoken)
      → list (with_parts s parts) ≡ insert_all same (list s) (flat_map of parts)
  grown_by_parts [] s = refl
  grown_by_parts (part ∷ parts) s =
      grown_by_parts parts (with_part s part)
      ∙ ap (λ ks. insert_all same ks (flat_map of parts)) (grows s part)
      ∙ sym (fold-append (insert_key same) (list s) (of part) (flat_map of parts))
      ∙ ap (insert_all same (list s)) (sym (flat_map-cons of part parts))

  grown_by_texts : (texts : List Expr) (s : Spoken)
      → list (with_texts s texts) ≡ insert_all same (list s) (of_parts of texts)
  grown_by_texts [] s = refl
  grown_by_texts (text ∷ texts) s =
      grown_by_texts texts (with_parts s text.parts)
      ∙ ap (λ ks. insert_all same ks (of_parts of texts)) (grown_by_parts text.parts s)
      ∙ sym (fold-append (insert_key same) (list s) (flat_map of text.parts) (of_parts of texts))
      ∙ ap (insert_all same (list s))
      (sym (flat_map-cons (λ (t : Expr). flat_map of t.parts) text texts))

  pub grown_to : Transitive same → (texts : List Expr) (s : Spoken) (more : List X) → list s ≡ []
      → insert_all same (list (with_texts s texts)) more ≡ distinct same (of_parts of texts ++ more)
  grown_to law texts s more none =
      ap (λ ks. insert_all same ks more) (grown_by_texts texts s
      ∙ ap (λ ks. insert_all same ks (of_parts of texts)) none
      ∙ insert_all-distinct same law [] (of_parts of texts))
      ∙ insert_all-distinct same law (of_parts of texts) more

  pub grown_to_all : Transitive same → (texts : List Expr) (s : Spoken) → list s ≡ []
      → list (with_texts s texts) ≡ distinct same (of_parts of texts)
  grown_to_all law texts s none =
      grown_by_texts texts s ∙ ap (λ ks. insert_all same ks (of_parts of texts)) none
      ∙ insert_all-distinct same law [] (of_parts of texts)

mentions_grow : (s : Spoken) (part : Part) → (with_part s part).mentioned
    ≡ insert_all bytes_eq s.mentioned (part_mentions part)
mentions_grow s part = sym
    (fold-append (insert_key bytes_eq) s.mentioned (part_qualifiers part) (part_names part))

spoken_by : (a b : Spoken) → a.references ≡ b.references → a.named ≡ b.named
    → a.qualified ≡ b.qualified → a.mentioned ≡ b.mentioned → a ≡ b
spoken_by a b p q r s = λ i.
    record { references = p i; named = q i; qualified = r i; mentioned = s i }

pub spoken_is : (texts : List Expr) (own : Option (List ℕ))
    → with_named (with_texts nothing texts) (option_to_list own) ≡ spoken texts own
spoken_is texts own =
    let kinds = option_to_list own in
    spoken_by _ _
    (grown_to_all same_reference part_references (λ s. s.references) (λ s part. refl)
    reference_transitive texts nothing refl)
    (grown_to bytes_eq part_names (λ s. s.named) (λ s part. refl) bytes_transitive texts nothing
    kinds refl)
    (grown_to_all bytes_eq part_qualifiers (λ s. s.qualified) (λ s part. refl) bytes_transitive
    texts nothing refl)
    (grown_to bytes_eq part_mentions (λ s. s.mentioned) mentions_grow bytes_transitive texts nothing
    kinds refl)
