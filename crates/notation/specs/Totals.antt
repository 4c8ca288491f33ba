-- How much a book holds.
use Rattle.std.specs.Prelude.{ℕ, List, ◌++◌, codes, decimal, length, count_by}
use Rattle.vocabulary.specs.declared.kind.Kind.{Kind}
use Rattle.vocabulary.specs.declared.kind.Kind.TheVariants.{Concept, Role, Individual}
use Rattle.vocabulary.specs.Kinds.{same_kind}
use Rattle.book.specs.Contents.{Contents}
use Rattle.notation.specs.declared.tally.Tally.{Tally}

-- how many names of a book are of a kind
abbrev pub names_of_kind : Contents → Kind → ℕ
names_of_kind b kind = count_by (λ e. same_kind e.kind kind) b.names

-- how many names are in the signature
abbrev pub seeded_names : Contents → ℕ
seeded_names b = count_by (λ e. e.seeded) b.names

-- the names of each kind, those in the signature, and the axioms
abbrev pub tally_of : Contents → Tally
tally_of b = record {
  concepts = names_of_kind b Concept;
  roles = names_of_kind b Role;
  individuals = names_of_kind b Individual;
  seeded = seeded_names b;
  axioms = length b.axioms;
}

abbrev pub tally_text : Tally → List ℕ
tally_text t =
    codes "concepts: " ++ (decimal t.concepts ++ (codes "\nroles: " ++ (decimal t.roles ++ (codes "\nindividuals: " ++ (decimal t.individuals ++ (codes "\naxioms: " ++ (decimal t.axioms ++ (codes "\nseeded names: " ++ decimal t.seeded))))))))
