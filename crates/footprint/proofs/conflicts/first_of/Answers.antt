use Rattle.std.proofs.Common.{◌+◌, sym, subst, Some}
use Rattle.footprint.specs.Order.{mark_at}
use Rattle.footprint.specs.Reaches.{reach_with}
use Rattle.footprint.specs.declared.reach.Reach.{Reach}
use Rattle.footprint.proofs.ConflictLaws.{first_swap}
use Rattle.footprint.proofs.SweepLaws.{Swept, swept_none, swept_swap, swept_more, swept_found, swept_all}
use Rattle.footprint.proofs.conflicts.first_of.Goals as goal

pub loop-i-init : goal.loop-i-init
loop-i-init c =
    let a = c.args.a.now in
    let b = c.args.b.now in
    subst (λ (r : Reach). Swept a b 0 0 r c.none-in_b.result) (sym c.none-in_a.ensures)
    (subst (λ (r : Reach). Swept a b 0 0 (record { buffer = 0; read_to = 0; write_to = 0 }) r) (sym c.none-in_b.ensures) (swept_none a b))

pub loop-i-preserved-then-is_next : goal.loop-i-preserved-then-is_next
loop-i-preserved-then-is_next c =
    let a = c.args.a.now in
    let b = c.args.b.now in
    let i = c.loop-i.i in
    let j = c.loop-i.j in
    let more = swept_more a b c.requires.a_ordered c.requires.b_ordered i j c.loop-i.in_a c.loop-i.in_b c.loop-i.invariant c.if-is_next.ensures.0 c.if-is_next.ensures.1
    (sym c.if-meets.ensures) in
    subst (λ (r : Reach). Swept a b (i + 1) j r c.loop-i.in_b) (sym c.with_mark-in_a.ensures) more

pub returns-then-meets : goal.returns-then-meets
returns-then-meets c =
    swept_found c.args.a.now c.args.b.now c.requires.a_ordered c.requires.b_ordered c.loop-i.i c.loop-i.j c.loop-i.in_a c.loop-i.in_b c.loop-i.invariant
    c.if-is_next.ensures.0 c.if-is_next.ensures.1 (sym c.if-meets.ensures)

pub loop-i-preserved : goal.loop-i-preserved
loop-i-preserved c =
    let a = c.args.a.now in
    let b = c.args.b.now in
    let i = c.loop-i.i in
    let j = c.loop-i.j in
    let swapped = swept_swap a b i j c.loop-i.in_a c.loop-i.in_b c.loop-i.invariant in
    let more = swept_more b a c.requires.b_ordered c.requires.a_ordered j i c.loop-i.in_b c.loop-i.in_a swapped c.if-is_next.ensures.0 c.if-is_next.ensures.1
    (sym c.if-meets-2.ensures) in
    subst (λ (r : Reach). Swept a b i (j + 1) c.loop-i.in_a r) (sym c.with_mark-in_b.ensures)
    (swept_swap b a (j + 1) i (reach_with c.loop-i.in_b (mark_at b j)) c.loop-i.in_a more)

pub returns-then-meets-2 : goal.returns-then-meets-2
returns-then-meets-2 c =
    let a = c.args.a.now in
    let b = c.args.b.now in
    let m = mark_at b c.loop-i.j in
    let swapped = swept_swap a b c.loop-i.i c.loop-i.j c.loop-i.in_a c.loop-i.in_b c.loop-i.invariant in
    first_swap b a (Some (m.buffer, m.from))
    (swept_found b a c.requires.b_ordered c.requires.a_ordered c.loop-i.j c.loop-i.i c.loop-i.in_b c.loop-i.in_a swapped
    c.if-is_next.ensures.0 c.if-is_next.ensures.1 (sym c.if-meets-2.ensures))

pub returns : goal.returns
returns c = swept_all c.args.a.now c.args.b.now c.loop-i.i c.loop-i.j c.loop-i.in_a c.loop-i.in_b c.loop-i.invariant c.if-i-a.false c.if-j-b.false
