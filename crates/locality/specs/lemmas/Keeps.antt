-- Every test that has a word keeps the laws.
use Rattle.locality.specs.declared.test.Test.{Test}
use Rattle.locality.specs.Defaults.{concepts_of, roles_of, default_of}
use Rattle.locality.specs.Laws.{TestLaws}
use Rattle.locality.specs.Tables.{local_by}
use Rattle.locality.specs.lemmas.Depends.{local_depends}
use Rattle.locality.specs.lemmas.Shrinks.{local_shrinks}
use Rattle.locality.specs.lemmas.Sound.{local_sound}

pub keeps_laws : (t : Test) → TestLaws (local_by t) (default_of t)
keeps_laws t = record {
  depends = λ r listed other same. local_depends (concepts_of t) (roles_of t) listed other r same;
  shrinks = λ r listed part fewer h. local_shrinks (concepts_of t) (roles_of t) listed part fewer r h;
  holds = λ r listed w has counts h. local_sound (concepts_of t) (roles_of t) listed w has r counts h;
}
