use Rattle.std.proofs.Common.{rules, ap, take, ◌∙◌}
use Rattle.book.specs.Calls.{contents}
use Rattle.part.specs.Parts.{part_bytes}
use Rattle.scripts.specs.Replies.{pile_of}
use Rattle.winavulor.proofs.Taking.{part_taken, lent_items}
use Rattle.winavulor.proofs.cut.part_of.Goals as goal

pub returns : goal.returns
returns c =
    let b = contents c.args.rest.now in
    part_taken b (pile_of c.extractor-pile.result.tests.now b).kept _ _ c.in_ok-len.len _ c.in_ok-len.ensures.gives (c.truncate.ensures.items ∙ ap (take c.in_ok-len.len) (lent_items c.in_ok-part.part.len c.write.new.part _ (search rules)))
    ∙ ap (λ ts. part_bytes b (pile_of ts b).kept) c.extractor-pile.ensures
