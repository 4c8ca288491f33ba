-- The laws of a locality test.
use Rattle.std.specs.Prelude.{◌≡◌, Bool, true}
use Rattle.vocabulary.specs.declared.name.NameId.{NameId}
use Rattle.terms.specs.Forms.{Rule}
use Rattle.terms.specs.Counts.{counts_fit}
use Rattle.locality.specs.Meaning.{Holds}
use Rattle.locality.specs.Mentions.{in_rule}
use Rattle.locality.specs.Worlds.{World, Names, Default, HasDefault}

-- what a test means: what it says of an axiom, with a list of names, and what it sets names outside
-- the list to
pub record TestMeaning : Type 0 where
  pub local : Rule → Names → Bool
  pub default : Default

-- what a test says keeps these laws, with its default
pub record TestLaws (local : Rule → Names → Bool) (default : Default) : Type 0 where
  -- two lists that agree on the axiom's own names get the same answer
  pub depends :
      (r : Rule) (listed other : Names) → ((n : NameId) → in_rule r n ≡ true → listed n ≡ other n) →
      local r listed ≡ local r other
  -- what is local stays local if names are taken off the list
  pub shrinks :
      (r : Rule) (listed part : Names) → ((n : NameId) → part n ≡ true → listed n ≡ true) →
      local r listed ≡ true → local r part ≡ true
  -- a local axiom is true in each finite world that has the default for all names off the list; its
  -- counts are at least 1, as those of every axiom of a book are
  pub holds :
      (r : Rule) (listed : Names) (w : World) → HasDefault default listed w → counts_fit r ≡ true →
      local r listed ≡ true → Holds w r
