-- What each default has of the properties that the tables ask for.
use Rattle.std.specs.Prelude.{◌≡◌, ℕ, ◌<◌, Bool, true, false, refl}
use Rattle.std.proofs.Common.{sym}
use Rattle.std.proofs.lemmas.Bool.{both_ways}
use Rattle.terms.specs.declared.term.RoleItem.{RoleItem}
use Rattle.terms.specs.declared.term.RoleItem.TheVariants.{Forward, Inverse}
use Rattle.locality.specs.declared.defaults.ConceptDefault.{ConceptDefault}
use Rattle.locality.specs.declared.defaults.ConceptDefault.TheVariants as Concepts'
use Rattle.locality.specs.declared.defaults.RoleDefault.{RoleDefault}
use Rattle.locality.specs.declared.defaults.RoleDefault.TheVariants as Roles'
use Rattle.locality.specs.Defaults.{default_elements, default_pairs, has_no_element, has_every_element, has_no_pair, falls_short, has_partners, has_every_pair, is_transitive, is_functional}
use Rattle.locality.specs.Meaning.{some_below, count_below}
use Rattle.locality.specs.lemmas.Below.{count_none, some_all}

pub no_element : (c : ConceptDefault) → has_no_element c ≡ true → (size x : ℕ) → default_elements c size x ≡ false
no_element Concepts'.Empty h size x = refl
no_element Concepts'.Full h size x = sym h

pub every_element : (c : ConceptDefault) → has_every_element c ≡ true → (size x : ℕ) → default_elements c size x ≡ true
every_element Concepts'.Empty h size x = h
every_element Concepts'.Full h size x = refl

-- a relation read the way round that a role item is
abbrev pub read_by : RoleItem → (ℕ → ℕ → Bool) → ℕ → ℕ → Bool
read_by (Forward r) pairs x y = pairs x y
read_by (Inverse r) pairs x y = pairs y x

pub no_pair : (d : RoleDefault) → has_no_pair d ≡ true → (r : RoleItem) (size x y : ℕ) → read_by r (default_pairs d size) x y ≡ false
no_pair Roles'.Empty h (Forward r) size x y = refl
no_pair Roles'.Empty h (Inverse r) size x y = refl
no_pair Roles'.Full h r size x y = absurd (both_ways false refl h)

pub every_pair : (d : RoleDefault) → has_every_pair d ≡ true → (r : RoleItem) (size x y : ℕ) → read_by r (default_pairs d size) x y ≡ true
every_pair Roles'.Empty h r size x y = absurd (both_ways false refl h)
every_pair Roles'.Full h (Forward r) size x y = refl
every_pair Roles'.Full h (Inverse r) size x y = refl

pub few_partners : (d : RoleDefault) (n : ℕ) → 0 < n → falls_short d n ≡ true → (r : RoleItem) (size x : ℕ) → count_below size (read_by r (default_pairs d size) x) < n
few_partners Roles'.Empty n k h r size x = rw (count_none size (read_by r (default_pairs Roles'.Empty size) x) (λ y l. no_pair Roles'.Empty refl r size x y)) k
few_partners Roles'.Full n k h r size x = absurd (both_ways false refl h)

pub a_partner : (d : RoleDefault) → has_partners d ≡ true → (r : RoleItem) (size x : ℕ) → 0 < size → x < size → some_below size (read_by r (default_pairs d size) x) ≡ true
a_partner Roles'.Empty h r size x some l = absurd (both_ways false refl h)
a_partner Roles'.Full h r size x some l = some_all size _ some (λ y k. every_pair Roles'.Full refl r size x y)

pub partners_of_partners : (d : RoleDefault) → is_transitive d ≡ true → (size x y z : ℕ) → default_pairs d size x y ≡ true → default_pairs d size y z ≡ true → default_pairs d size x z ≡ true
partners_of_partners Roles'.Empty h size x y z first second = first
partners_of_partners Roles'.Full h size x y z first second = refl

pub one_partner : (d : RoleDefault) → is_functional d ≡ true → (r : RoleItem) (size x y z : ℕ) → read_by r (default_pairs d size) x y ≡ true → read_by r (default_pairs d size) x z ≡ true → y ≡ z
one_partner Roles'.Empty h r size x y z first second = absurd (both_ways _ (no_pair Roles'.Empty refl r size x y) first)
one_partner Roles'.Full h r size x y z first second = absurd (both_ways false refl h)
