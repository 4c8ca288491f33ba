-- Naming, outcome by outcome.
use Rattle.std.proofs.Common.{◌≡◌, ℕ, ◌<◌, ◌≤◌, true, false, List, [], ◌∷◌, ◌++◌, length, Ok, Err, refl, ◌∙◌, le-leb}
use borrow.Author.Tests.{lt-leb}
use Rattle.vocabulary.specs.declared.kind.Kind.{Kind}
use Rattle.vocabulary.specs.declared.fault.NameFault.{NameFault}
use Rattle.vocabulary.specs.declared.fault.NameFault.TheVariants.{LabelTaken, TableFull}
use Rattle.vocabulary.specs.Limits.{most_names}
use Rattle.vocabulary.specs.Entities.{Entity, kind_or_fault, label_or_fault, is_taken}
use Rattle.refusals.specs.Turns.{accepted_turn, refused_turn}
use Rattle.vocabulary.specs.Naming.{naming, new_name_turn, new_name}

module _ (es : List Entity) (b : ℕ) (l : List ℕ) where
  pub naming_bad_kind : (f : NameFault) → Err f ≡ kind_or_fault b → naming es b l ≡ refused_turn es f
  unfolding naming
  naming_bad_kind f e = rw (← e) refl

  pub naming_bad_label : (k : Kind) (f : NameFault) → Ok k ≡ kind_or_fault b → Err f ≡ label_or_fault l → naming es b l ≡ refused_turn es f
  unfolding naming
  naming_bad_label k f e h = rw (← e, ← h) refl

  adds : (k : Kind) (m : List ℕ) → Ok k ≡ kind_or_fault b → Ok m ≡ label_or_fault l → naming es b l ≡ new_name_turn es k m
  unfolding naming
  adds k m e h = rw (← e, ← h) refl

  pub naming_taken : (k : Kind) (m : List ℕ) → Ok k ≡ kind_or_fault b → Ok m ≡ label_or_fault l → is_taken k m es ≡ true → naming es b l ≡ refused_turn es LabelTaken
  naming_taken k m e h t = adds k m e h ∙ rw t refl

  pub naming_full : (k : Kind) (m : List ℕ) → Ok k ≡ kind_or_fault b → Ok m ≡ label_or_fault l → is_taken k m es ≡ false → most_names ≤ length es → naming es b l ≡ refused_turn es TableFull
  naming_full k m e h t full = adds k m e h ∙ rw (t, le-leb most_names (length es) full) refl

  pub naming_done : (k : Kind) (m : List ℕ) → Ok k ≡ kind_or_fault b → Ok m ≡ label_or_fault l → is_taken k m es ≡ false → length es < most_names → naming es b l ≡ accepted_turn (es ++ new_name k m ∷ []) (record { 0 = length es })
  naming_done k m e h t room = adds k m e h ∙ rw (t, lt-leb most_names (length es) room) refl
