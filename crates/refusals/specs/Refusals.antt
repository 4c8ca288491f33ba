-- Refusals: the number, the layer and the words of each reason, and how a refusal is told.
use Rattle.std.specs.Prelude.{ℕ, ◌&&◌, List, ◌++◌, codes, decimal, if◌then◌else◌, nat_le}
use Rattle.refusals.specs.declared.layer.Layer.{Layer}
use Rattle.refusals.specs.declared.layer.Layer.TheVariants.{File, Book, Item}
use Rattle.refusals.specs.declared.reason.Reason.{Reason}
use Rattle.refusals.specs.declared.reason.Reason.TheVariants as Reason'
use Rattle.refusals.specs.declared.refusal.Refusal.{Refusal}

-- the layers are numbered from the outside in
abbrev pub layer_number : Layer → ℕ
layer_number File = 1
layer_number Book = 2
layer_number Item = 3

-- the number of each reason
abbrev pub reason_number : Reason → ℕ
reason_number Reason'.NotEmpty = 1
reason_number Reason'.RecordCutShort = 2
reason_number Reason'.UnknownKind = 3
reason_number Reason'.BodyTooLong = 4
reason_number Reason'.BadKind = 5
reason_number Reason'.LabelLength = 6
reason_number Reason'.LabelByte = 7
reason_number Reason'.LabelTaken = 8
reason_number Reason'.NamesFull = 9
reason_number Reason'.TooDeep = 10
reason_number Reason'.ItemCutShort = 11
reason_number Reason'.UnknownCode = 12
reason_number Reason'.UnknownDirection = 13
reason_number Reason'.WrongName = 14
reason_number Reason'.ZeroCount = 15
reason_number Reason'.LeftOver = 16
reason_number Reason'.AxiomsFull = 17
reason_number Reason'.BytesFull = 18
reason_number Reason'.NoSuchAxiom = 19
reason_number Reason'.EmptySignature = 20
reason_number Reason'.ShortBuffer = 21

-- each reason and each layer in words
abbrev pub reason_text : Reason → List ℕ
reason_text Reason'.NotEmpty = codes "the book to load into has a name or an axiom already"
reason_text Reason'.RecordCutShort = codes "the file ends inside a record"
reason_text Reason'.UnknownKind = codes "the kind is none that is known here"
reason_text Reason'.BodyTooLong = codes "the body has more than 512 bytes"
reason_text Reason'.BadKind = codes "the kind byte of the name is missing or above 2"
reason_text Reason'.LabelLength = codes "the label has no byte, or more than 32"
reason_text Reason'.LabelByte = codes "a byte of the label is below 33 or above 126"
reason_text Reason'.LabelTaken = codes "a name of this kind has this label already"
reason_text Reason'.NamesFull = codes "the book has 1,024 names already"
reason_text Reason'.TooDeep = codes "a term is due inside 24 other terms"
reason_text Reason'.ItemCutShort = codes "the body ends where an item should begin, or inside one"
reason_text Reason'.UnknownCode = codes "the code of a term is above 7"
reason_text Reason'.UnknownDirection = codes "a direction byte is above 1"
reason_text Reason'.WrongName = codes "no name has this number, or it is of another kind than wanted"
reason_text Reason'.ZeroCount = codes "a count is 0"
reason_text Reason'.LeftOver = codes "the body goes on behind its last item"
reason_text Reason'.AxiomsFull = codes "the book has 1,024 axioms already"
reason_text Reason'.BytesFull = codes "the bodies of the book would have more than 32,768 bytes together"
reason_text Reason'.NoSuchAxiom = codes "no axiom has this number"
reason_text Reason'.EmptySignature = codes "no name is seeded, so there is nothing to mark for"
reason_text Reason'.ShortBuffer = codes "a buffer is too short"

abbrev pub layer_text : Layer → List ℕ
layer_text File = codes "file"
layer_text Book = codes "book"
layer_text Item = codes "item"

-- numbers 1 to 4 are about the file, 10 to 15 about an item, all others about the book
abbrev pub layer_of : Reason → Layer
layer_of r =
    if nat_le (reason_number r) 4 then File
    else if nat_le 10 (reason_number r) && nat_le (reason_number r) 15 then Item
    else Book

-- a refusal for a reason, with the place of the fault
abbrev pub refusal_at : Reason → ℕ → Refusal
refusal_at r at = record { reason = r; place = at }

-- number, layer and place
abbrev pub refusal_text : Refusal → List ℕ
refusal_text r = decimal (reason_number r.reason) ++ (codes " " ++ (decimal (layer_number (layer_of r.reason)) ++ (codes " " ++ decimal r.place)))
