-- The bytes and numbers that stand for term codes, directions and axiom kinds.
use Rattle.std.specs.Prelude.{ℕ, if◌then◌else◌, Some, None, Option, ◌==◌, nat_le}
use Rattle.terms.specs.declared.code.Code.{Code}
use Rattle.terms.specs.declared.code.Code.TheVariants as Code'
use Rattle.terms.specs.declared.code.Direction.{Direction}
use Rattle.terms.specs.declared.code.Direction.TheVariants as Direction'
use Rattle.terms.specs.declared.«axiom».AxiomKind.{AxiomKind}
use Rattle.terms.specs.declared.«axiom».AxiomKind.TheVariants as Kind'
use Rattle.terms.specs.declared.«axiom».Axiom.{Axiom}
use Rattle.terms.specs.declared.«axiom».Axiom.TheVariants.{Inclusion, Equivalence, RoleInclusion, Transitive, Functional, ConceptAssertion, RoleAssertion}

-- the code of a term that a byte stands for, if it stands for one
abbrev pub code_of : ℕ → Option Code
code_of b =
    if b == 0 then Some Code'.Nothing
    else if b == 1 then Some Code'.Everything
    else if b == 2 then Some Code'.Concept
    else if b == 3 then Some Code'.Just
    else if b == 4 then Some Code'.Not
    else if b == 5 then Some Code'.And
    else if b == 6 then Some Code'.Exists
    else if b == 7 then Some Code'.AtLeast
    else None

-- the direction that a byte stands for, if it stands for one
abbrev pub direction_of : ℕ → Option Direction
direction_of b =
    if b == 0 then Some Direction'.Forward
    else if b == 1 then Some Direction'.Inverse
    else None

-- the byte of a code, and of a direction
abbrev pub code_byte : Code → ℕ
code_byte Code'.Nothing = 0
code_byte Code'.Everything = 1
code_byte Code'.Concept = 2
code_byte Code'.Just = 3
code_byte Code'.Not = 4
code_byte Code'.And = 5
code_byte Code'.Exists = 6
code_byte Code'.AtLeast = 7

abbrev pub direction_byte : Direction → ℕ
direction_byte Direction'.Forward = 0
direction_byte Direction'.Inverse = 1

-- the kind of axioms that a record kind is, if it is one: 16 to 22
abbrev pub axiom_kind_of : ℕ → Option AxiomKind
axiom_kind_of k =
    if k == 16 then Some Kind'.Inclusion
    else if k == 17 then Some Kind'.Equivalence
    else if k == 18 then Some Kind'.RoleInclusion
    else if k == 19 then Some Kind'.Transitive
    else if k == 20 then Some Kind'.Functional
    else if k == 21 then Some Kind'.ConceptAssertion
    else if k == 22 then Some Kind'.RoleAssertion
    else None

-- the record kind of a kind of axioms
abbrev pub kind_number : AxiomKind → ℕ
kind_number Kind'.Inclusion = 16
kind_number Kind'.Equivalence = 17
kind_number Kind'.RoleInclusion = 18
kind_number Kind'.Transitive = 19
kind_number Kind'.Functional = 20
kind_number Kind'.ConceptAssertion = 21
kind_number Kind'.RoleAssertion = 22

-- the kind of an axiom
abbrev pub kind_of_axiom : Axiom → AxiomKind
kind_of_axiom (Inclusion t u) = Kind'.Inclusion
kind_of_axiom (Equivalence t u) = Kind'.Equivalence
kind_of_axiom (RoleInclusion r s) = Kind'.RoleInclusion
kind_of_axiom (Transitive r) = Kind'.Transitive
kind_of_axiom (Functional r) = Kind'.Functional
kind_of_axiom (ConceptAssertion a t) = Kind'.ConceptAssertion
kind_of_axiom (RoleAssertion r a b) = Kind'.RoleAssertion

-- a count is at least 1
abbrev pub count_of : ℕ → Option ℕ
count_of n = if nat_le 1 n then Some n else None
