-- The book of the worked cases: relays, their inputs, and the bays that they stand in.
use Rattle.std.specs.Prelude.{ℕ, Bool, not, List, [], ◌∷◌, codes, ◌==◌, nat_eq}
use Rattle.vocabulary.specs.declared.kind.Kind.{Kind}
use Rattle.vocabulary.specs.declared.kind.Kind.TheVariants.{Concept, Role, Individual}
use Rattle.vocabulary.specs.declared.name.NameId.{NameId}
use Rattle.vocabulary.specs.Entities.{Entity}
use Rattle.std.specs.List.{list_any}
use Rattle.terms.specs.declared.term.RoleItem.TheVariants.{Forward}
use Rattle.terms.specs.Forms.{Rule, everything, concept, negation, exists, at_least, inclusion, transitive, member}
use Rattle.book.specs.Contents.{Contents, Filing}

-- k is one of the numbers
abbrev pub among : List ℕ → ℕ → Bool
among ks k = list_any (nat_eq k) ks

abbrev pub relay : NameId
relay = record { 0 = 0 }

abbrev pub distance : NameId
distance = record { 0 = 1 }

abbrev pub input : NameId
input = record { 0 = 2 }

abbrev pub bay : NameId
bay = record { 0 = 3 }

abbrev pub has : NameId
has = record { 0 = 4 }

abbrev pub inside : NameId
inside = record { 0 = 5 }

abbrev pub q1 : NameId
q1 = record { 0 = 6 }

-- the book with some axioms laid aside and one name seeded
module _ (aside : List ℕ) (seed : NameId) where
  abbrev named : NameId → Kind → List ℕ → Entity
  named n kind label = record { kind = kind; label = label; seeded = (n.0 == seed.0) }

  abbrev filed : ℕ → Rule → Filing
  filed k r = record { states = r; in_force = not (among aside k) }

  abbrev pub example : Contents
  example = record {
    names =
        named relay Concept (codes "Relay") ∷
        named distance Concept (codes "Distance") ∷
        named input Concept (codes "Input") ∷
        named bay Concept (codes "Bay") ∷
        named has Role (codes "has") ∷
        named inside Role (codes "in") ∷
        named q1 Individual (codes "Q1") ∷ [];
    axioms =
        filed 0 (inclusion (concept distance) (concept relay)) ∷
        filed 1 (inclusion (concept distance) (at_least 2 (Forward has) (concept input))) ∷
        filed 2 (inclusion (concept relay) (exists (Forward inside) (concept bay))) ∷
        filed 3 (inclusion (concept bay) (negation (concept relay))) ∷
        filed 4 (inclusion (exists (Forward has) everything) (concept relay)) ∷
        filed 5 (member q1 (concept distance)) ∷
        filed 6 (transitive inside) ∷ [];
  }
