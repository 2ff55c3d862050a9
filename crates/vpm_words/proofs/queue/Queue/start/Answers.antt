use Rattle.std.proofs.Common.{rules, arith, ◌≡◌, ◌∙◌, ℕ, ap, subst, List, map}
use Rattle.std.specs.List.{range_with_len}
use Rattle.std.proofs.lemmas.List.FromFn.{map-range_with_len_more}
use Rattle.vpm_words.specs.Piece.{Piece, IsTransfer}
use Rattle.vpm_words.specs.declared.state.Element.{Element}
use Rattle.vpm_words.specs.Elements.{elements_of, element_at}
use Rattle.vpm_words.proofs.ElementLaws.{elements_fit}
use Rattle.vpm_words.proofs.queue.Queue.start.Goals as goal

pub loop-j-preserved : goal.loop-j-preserved
loop-j-preserved c =
    let m = map-range_with_len_more (element_at c.args.address c.args.transfer) 0 c.loop-j.j c.loop-j.j (omega arith) in (
      omega arith,
      rw (m, ← c.loop-j.invariant.1, ← c.transfer.view_is) (rw (c.from.ensures, c.from-in-loop-j.ensures, c.size_in_bytes-size.ensures.size, c.first_bit-low.ensures) at c.push.ensures.items),
    )

whole : (a n : ℕ) (p : Piece) (xs : List Element) → xs ≡ map (element_at a p) (range_with_len 0 n) → n ≡ p.len → xs ≡ elements_of a p
unfolding elements_of
whole a n p xs e h = rw (← h) e

pub returns : goal.returns
returns c =
    let e : c.loop-j.j ≡ c.transfer.inside.len = omega arith in
    whole c.args.address c.loop-j.j c.args.transfer c.loop-j.self-inside.cells.items c.loop-j.invariant.1 (e ∙ ap (λ (p : Piece). p.len) c.transfer.view_is)

pub invariant_of-self : goal.invariant_of-self
invariant_of-self c =
    let e : c.loop-j.j ≡ c.transfer.inside.len = omega arith in
    rw (whole c.args.address c.loop-j.j c.args.transfer c.loop-j.self-inside.cells.items c.loop-j.invariant.1 (e ∙ ap (λ (p : Piece). p.len) c.transfer.view_is))
    (elements_fit c.args.address c.args.transfer (search rules) (subst IsTransfer c.transfer.view_is c.transfer.invariant))
