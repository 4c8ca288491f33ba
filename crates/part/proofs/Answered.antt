-- Each call of a book is accepted, with what it then does, or refused, and changes nothing.
use Rattle.std.proofs.Common.{◌≡◌, ℕ, ◌+◌, ◌<◌, ◌≤◌, Bool, true, false, cond, ltb, leb, List, [], ◌∷◌, ◌++◌, length, Some, None, Ok, Err, Option, Result, sym, refl, ap, ◌∙◌, ltb-true, ltb-false, leb-false, leb-true}
use Rattle.vocabulary.specs.declared.fault.NameFault.{NameFault}
use Rattle.vocabulary.specs.declared.fault.NameFault.TheVariants.{BadKind, LabelTaken, TableFull}
use Rattle.vocabulary.specs.declared.fault.NoSuchName.{NoSuchName}
use Rattle.vocabulary.specs.declared.kind.Kind.{Kind}
use Rattle.vocabulary.specs.declared.name.NameId.{NameId}
use Rattle.vocabulary.specs.Kinds.{kind_of}
use Rattle.std.specs.Option.{ok_or}
use Rattle.vocabulary.specs.Entities.{Entity, reseed, kind_or_fault, label_or_fault, is_taken}
use Rattle.vocabulary.specs.Limits.{most_names}
use Rattle.refusals.specs.Turns.{Turn, accepted_turn, refused_turn}
use Rattle.vocabulary.specs.Naming.{new_name, naming}
use Rattle.vocabulary.proofs.Kept.{labelling_same}
use Rattle.vocabulary.proofs.Turns.{naming_bad_kind, naming_bad_label, naming_taken, naming_full, naming_done}
use Rattle.terms.specs.declared.«axiom».AxiomKind.{AxiomKind}
use Rattle.terms.specs.Codes.{axiom_kind_of}
use Rattle.terms.specs.Forms.{Rule}
use Rattle.terms.specs.Reading.{Outcome, got, bad, read_axiom}
use Rattle.codec.specs.Bodies.{longest_body}
use Rattle.book.specs.declared.book.AxiomId.{AxiomId}
use Rattle.book.specs.declared.fault.AxiomFault.{AxiomFault}
use Rattle.book.specs.declared.fault.AxiomFault.TheVariants.{Item}
use Rattle.book.specs.declared.fault.FileFault.{FileFault}
use Rattle.book.specs.declared.fault.FileFault.TheVariants as File'
use Rattle.book.specs.declared.fault.NoSuchAxiom.{NoSuchAxiom}
use Rattle.book.specs.Contents.{Contents, bodies_length, reforce}
use Rattle.book.specs.Calls.{with_fault, with_axiom, naming_call, seeding_call, forcing_call, axiom_call, kind_call, filing_call}
use Rattle.book.specs.Limits.{most_axioms, most_bytes}
use Rattle.book.proofs.Admitting.{obstacle, axiom_call_bad, axiom_call_stopped, axiom_call_done, nothing_against}

-- the contents with a name at the end
abbrev pub with_name : Contents → Kind → List ℕ → Contents
with_name b kind label = record { names = b.names ++ new_name kind label ∷ []; axioms = b.axioms }

-- ---- naming

pub record CanName (b : Contents) (code : ℕ) (label : List ℕ) (kind : Kind) : Type 0 where
  pub kind_is : kind_of code ≡ Some kind
  pub is_label : Ok label ≡ label_or_fault label
  pub free : is_taken kind label b.names ≡ false
  pub room : length b.names < most_names

pub data Naming (b : Contents) (code : ℕ) (label : List ℕ) : Type 0 where
  made : (kind : Kind) → CanName b code label kind → naming_call b code label ≡ accepted_turn (with_name b kind label) (record { 0 = length b.names }) → Naming b code label
  not_made : (f : NameFault) → naming_call b code label ≡ refused_turn b f → Naming b code label

module _ (b : Contents) (code : ℕ) (label : List ℕ) where
  -- what naming does to the names is what the call does to the book
  lifted : {t : Turn (List Entity) (Result NameId NameFault)} → naming b.names code label ≡ t → naming_call b code label ≡ record { state = record { names = t.state; axioms = b.axioms }; answer = t.answer }
  lifted e = ap (λ (t : Turn (List Entity) (Result NameId NameFault)). record { state = record { names = t.state; axioms = b.axioms }; answer = t.answer }) e

  -- the kind that the byte stands for, as naming looks at it
  offered : {o : Option Kind} → kind_of code ≡ o → ok_or o BadKind ≡ kind_or_fault code
  offered e = ap (λ k. ok_or k BadKind) (sym e)

  -- a label that is one: it is taken already, the table is full, or the name is made
  fits : (kind : Kind) (full taken : Bool) → kind_of code ≡ Some kind → Ok label ≡ label_or_fault label → is_taken kind label b.names ≡ taken → leb most_names (length b.names) ≡ full → Naming b code label
  fits kind full true e h t n = not_made LabelTaken (lifted (naming_taken _ code label kind label (offered e) h t))
  fits kind true false e h t n = not_made TableFull (lifted (naming_full _ code label kind label (offered e) h t (leb-true _ _ n)))
  fits kind false false e h t n =
      let room : length b.names < most_names = leb-false most_names (length b.names) n in
      made kind (record { kind_is = e; is_label = h; free = t; room = room }) (lifted (naming_done _ code label kind label (offered e) h t room))

  -- the kind first, then the label
  pub naming_way : Naming b code label
  naming_way = go (kind_of code) (label_or_fault label) refl refl
    where
      go : (o : Option Kind) (r : Result (List ℕ) NameFault) → kind_of code ≡ o → label_or_fault label ≡ r → Naming b code label
      go None r e h = not_made BadKind (lifted (naming_bad_kind _ code label BadKind (offered e)))
      go (Some kind) (Err f) e h = not_made f (lifted (naming_bad_label _ code label kind f (offered e) (sym h)))
      go (Some kind) (Ok l) e h = fits kind _ _ e (ap Ok (sym (labelling_same label l (sym h))) ∙ sym h) refl refl

-- ---- filing

-- the items are those of r and end at the body's end, and there is room
pub record CanAdd (b : Contents) (kind : AxiomKind) (body : List ℕ) (r : Rule) : Type 0 where
  pub end : ℕ
  pub read : read_axiom body b.names kind ≡ got r end
  pub whole : length body ≤ end
  pub room : length b.axioms < most_axioms
  pub space : bodies_length b.axioms + length body ≤ most_bytes

pub data Adding (b : Contents) (kind : AxiomKind) (body : List ℕ) : Type 0 where
  made : (r : Rule) → CanAdd b kind body r → axiom_call b kind body ≡ accepted_turn (with_axiom b r) (record { 0 = length b.axioms }) → Adding b kind body
  not_made : (f : AxiomFault) → axiom_call b kind body ≡ refused_turn b f → Adding b kind body

module _ (b : Contents) (kind : AxiomKind) (body : List ℕ) where
  -- items that were read: something stands against the axiom, or it is put at the end
  enters : (r : Rule) (end : ℕ) (o : Option AxiomFault) → read_axiom body b.names kind ≡ got r end → obstacle (length b.axioms) (bodies_length b.axioms) (length body) end ≡ o → Adding b kind body
  enters r end (Some f) g n = not_made f (axiom_call_stopped b kind body r end _ _ (sym g) refl refl f (sym n))
  enters r end None g n =
      let clear = nothing_against _ _ _ _ (sym n) in
      made r (record { end = end; read = g; whole = clear.0; room = clear.1; space = clear.2 }) (axiom_call_done b kind body r end _ _ (sym g) refl refl (sym n))

  pub adding_way : Adding b kind body
  adding_way = go (read_axiom body b.names kind) refl
    where
      go : (out : Outcome Rule) → read_axiom body b.names kind ≡ out → Adding b kind body
      go (bad f) g = not_made (Item f) (axiom_call_bad b kind body f (sym g))
      go (got r end) g = enters r end _ g refl

pub data Filing (b : Contents) (code : ℕ) (body : List ℕ) : Type 0 where
  made : (kind : AxiomKind) (r : Rule) → axiom_kind_of code ≡ Some kind → length body ≤ longest_body → CanAdd b kind body r → filing_call b code body ≡ accepted_turn (with_axiom b r) (record { 0 = length b.axioms }) → Filing b code body
  not_made : (f : FileFault) → filing_call b code body ≡ refused_turn b f → Filing b code body

module _ (b : Contents) (code : ℕ) (body : List ℕ) where
  -- bytes that are no longer than a body may be, for a kind that there is, are filed as a body of this kind
  pub filed_as : (kind : AxiomKind) → axiom_kind_of code ≡ Some kind → ltb longest_body (length body) ≡ false → filing_call b code body ≡ record { state = (axiom_call b kind body).state; answer = with_fault File'.Axiom (axiom_call b kind body).answer }
  filed_as kind e s =
      ap (λ o. kind_call b o body) e ∙
      ap (λ c. cond c (refused_turn b File'.BodyTooLong) (record { state = (axiom_call b kind body).state; answer = with_fault File'.Axiom (axiom_call b kind body).answer })) s

  -- the kind first, then the length, then the items
  pub filing_way : Filing b code body
  filing_way = go (axiom_kind_of code) refl
    where
      told : (t : Turn Contents (Result AxiomId AxiomFault)) → Turn Contents (Result AxiomId FileFault)
      told t = record { state = t.state; answer = with_fault File'.Axiom t.answer }

      added : (kind : AxiomKind) → axiom_kind_of code ≡ Some kind → ltb longest_body (length body) ≡ false → Adding b kind body → Filing b code body
      added kind e s (made r can h) = made kind r e (ltb-false longest_body (length body) s) can (filed_as kind e s ∙ ap told h)
      added kind e s (not_made f h) = not_made (File'.Axiom f) (filed_as kind e s ∙ ap told h)

      sized : (kind : AxiomKind) (long : Bool) → axiom_kind_of code ≡ Some kind → ltb longest_body (length body) ≡ long → Filing b code body
      sized kind true e s =
          not_made File'.BodyTooLong (ap (λ o. kind_call b o body) e ∙ ap (λ c. cond c (refused_turn b File'.BodyTooLong) (told (axiom_call b kind body))) s)
      sized kind false e s = added kind e s (adding_way b kind body)

      go : (o : Option AxiomKind) → axiom_kind_of code ≡ o → Filing b code body
      go None e = not_made File'.UnknownKind (ap (λ o. kind_call b o body) e)
      go (Some kind) e = sized kind _ e refl

-- ---- seeding and unseeding, laying aside and restoring

pub data Seeding (b : Contents) (n : ℕ) (on : Bool) : Type 0 where
  made : n < length b.names → seeding_call b n on ≡ accepted_turn (record { names = reseed b.names n on; axioms = b.axioms }) tt → Seeding b n on
  not_made : (f : NoSuchName) → seeding_call b n on ≡ refused_turn b f → Seeding b n on

-- by whether a name has the number
pub seeding_way : (b : Contents) (n : ℕ) (on : Bool) → Seeding b n on
seeding_way b n on = go (ltb n (length b.names)) refl
  where
    at : {c : Bool} → ltb n (length b.names) ≡ c → seeding_call b n on ≡ cond c (accepted_turn (record { names = reseed b.names n on; axioms = b.axioms }) tt) (refused_turn b (record {}))
    at e = ap (λ c. cond c (accepted_turn (record { names = reseed b.names n on; axioms = b.axioms }) tt) (refused_turn b (record {}))) e

    go : (c : Bool) → ltb n (length b.names) ≡ c → Seeding b n on
    go true e = made (ltb-true _ _ e) (at e)
    go false e = not_made (record {}) (at e)

pub data Forcing (b : Contents) (k : ℕ) (on : Bool) : Type 0 where
  made : forcing_call b k on ≡ accepted_turn (record { names = b.names; axioms = reforce b.axioms k on }) tt → Forcing b k on
  not_made : (f : NoSuchAxiom) → forcing_call b k on ≡ refused_turn b f → Forcing b k on

-- by whether an axiom has the number
pub forcing_way : (b : Contents) (k : ℕ) (on : Bool) → Forcing b k on
forcing_way b k on = go (ltb k (length b.axioms)) refl
  where
    at : {c : Bool} → ltb k (length b.axioms) ≡ c → forcing_call b k on ≡ cond c (accepted_turn (record { names = b.names; axioms = reforce b.axioms k on }) tt) (refused_turn b (record {}))
    at e = ap (λ c. cond c (accepted_turn (record { names = b.names; axioms = reforce b.axioms k on }) tt) (refused_turn b (record {}))) e

    go : (c : Bool) → ltb k (length b.axioms) ≡ c → Forcing b k on
    go true e = made (at e)
    go false e = not_made (record {}) (at e)
