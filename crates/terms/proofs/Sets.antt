-- Two terms, and two axioms, are equal in at most one way.
use native.Mathlib.Nat.{ℕ_set}
use base.Stored.{Coded-set}
use Rattle.vocabulary.specs.declared.name.NameId.{NameId}
use Rattle.vocabulary.specs.contracts.name.NameId as name-type
use Rattle.terms.specs.declared.term.RoleItem.{RoleItem}
use Rattle.terms.specs.contracts.term.RoleItem as role-type
use Rattle.terms.specs.Forms.{Form, Rule, form_set, rule_set}

names_set : IsSet NameId
names_set = Coded-set (name-type.the_row).coded

roles_set : IsSet RoleItem
roles_set = Coded-set (role-type.the_row).coded

forms_set : IsSet Form
forms_set = form_set names_set roles_set ℕ_set

pub rules_set : IsSet Rule
rules_set = rule_set forms_set roles_set names_set
