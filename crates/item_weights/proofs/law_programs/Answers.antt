use Rattle.item_weights.proofs.law_programs.Goals as goal

pub returns : goal.returns
returns c = λ tree functions kernel f body proper typed found inlined. c.law_bodies.ensures functions kernel f body (c.law_well_typed.ensures tree functions proper typed) (c.law_plain.ensures tree functions typed) found inlined
