-- The notation of description logics: names, roles, terms and axioms as texts. Each takes the names by their numbers.
use Prim.Native.String.{String}
use Rattle.std.specs.Prelude.{ℕ, Bool, true, false, if◌then◌else◌, List, ◌++◌, codes, decimal, encode_utf8_all}
use Rattle.std.specs.Option.{option_map_or}
use Rattle.vocabulary.specs.declared.name.NameId.{NameId}
use Rattle.vocabulary.specs.Entities.{Entity, entity_at}
use Rattle.terms.specs.declared.term.RoleItem.{RoleItem}
use Rattle.terms.specs.declared.term.RoleItem.TheVariants.{Forward, Inverse}
use Rattle.terms.specs.Forms.{Form, Rule, nothing, everything, concept, just, negation, both, exists, at_least, inclusion, equivalence, role_inclusion, transitive, functional, member, related}

-- the bytes of a text with signs beyond ASCII
unfoldable pub utf8 : String → List ℕ
utf8 text = encode_utf8_all (codes text)

module _ (names : List Entity) where
  -- a name, by its label; a question mark where no name has the number
  abbrev pub name_text : NameId → List ℕ
  name_text n = option_map_or (λ e. e.label) (entity_at names n.0) (codes "?")

  -- a role, or its inverse
  abbrev pub role_text : RoleItem → List ℕ
  role_text (Forward r) = name_text r
  role_text (Inverse r) = name_text r ++ utf8 "⁻"

  -- a term: an intersection stands in parentheses, one individual in braces
  abbrev pub term_text : Form → List ℕ
  term_text nothing = utf8 "⊥"
  term_text everything = utf8 "⊤"
  term_text (concept n) = name_text n
  term_text (just n) = codes "{" ++ (name_text n ++ codes "}")
  term_text (negation f) = utf8 "¬" ++ term_text f
  term_text (both f g) = codes "(" ++ (term_text f ++ (utf8 " ⊓ " ++ (term_text g ++ codes ")")))
  term_text (exists r f) = utf8 "∃" ++ (role_text r ++ (codes "." ++ term_text f))
  term_text (at_least n r f) = utf8 "≥" ++ (decimal n ++ (codes " " ++ (role_text r ++ (codes "." ++ term_text f))))

-- a term that ends in another one, with nothing around the two
abbrev pub ends_open : Form → Bool
ends_open nothing = false
ends_open everything = false
ends_open (concept n) = false
ends_open (just n) = false
ends_open (negation f) = true
ends_open (both f g) = false
ends_open (exists r f) = true
ends_open (at_least n r f) = true

module _ (names : List Entity) where
  -- a term that an argument follows
  abbrev pub predicate_text : Form → List ℕ
  predicate_text f = if ends_open f then (codes "(" ++ (term_text names f ++ codes ")")) else (term_text names f)

  -- an axiom: an inclusion, an equivalence, what a role is, or an assertion about individuals
  abbrev pub axiom_text : Rule → List ℕ
  axiom_text (inclusion f g) = term_text names f ++ (utf8 " ⊑ " ++ term_text names g)
  axiom_text (equivalence f g) = term_text names f ++ (utf8 " ≡ " ++ term_text names g)
  axiom_text (role_inclusion r s) = role_text names r ++ (utf8 " ⊑ " ++ role_text names s)
  axiom_text (transitive r) = codes "Tra(" ++ (name_text names r ++ codes ")")
  axiom_text (functional r) = codes "Fun(" ++ (role_text names r ++ codes ")")
  axiom_text (member a f) = predicate_text f ++ (codes "(" ++ (name_text names a ++ codes ")"))
  axiom_text (related r a b) =
      name_text names r ++ (codes "(" ++ (name_text names a ++ (codes ", " ++ (name_text names b ++ codes ")"))))
