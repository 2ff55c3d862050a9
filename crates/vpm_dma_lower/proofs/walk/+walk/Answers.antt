use Rattle.std.proofs.Common.{◌≡◌, ◌++◌, ap, ◌∙◌, map, arith}
use Rattle.std.proofs.lemmas.Grind.{common_steps}
use Rattle.vpm_dma_lower.specs.Accesses.{code_from, codes, codes_all}
use Rattle.vpm_dma_lower.proofs.Lists.{codes-WhileAny}
use Rattle.vpm_dma_lower.proofs.walk.+walk.Goals as goal

pub put_statement-returns-in_ok-blocks-in-Load : goal.put_statement-returns-in_ok-blocks-in-Load
put_statement-returns-in_ok-blocks-in-Load t c = rw c.in-Load.is (rw c.in_ok-blocks-in-Load.ensures at c.put.ensures)

pub put_statement-returns-in_ok-blocks-in-Store : goal.put_statement-returns-in_ok-blocks-in-Store
put_statement-returns-in_ok-blocks-in-Store t c = rw c.in-Store.is (rw c.in_ok-blocks-in-Store.ensures at c.put-in-Store.ensures)

pub put_statement-returns-in_ok-blocks-in-GetElement : goal.put_statement-returns-in_ok-blocks-in-GetElement
put_statement-returns-in_ok-blocks-in-GetElement t c =
    rw c.in-GetElement.is (rw (c.in_ok-blocks-in-GetElement.ensures, c.in_ok-row-in-GetElement.ensures.value) at c.put-in-GetElement.ensures)

pub put_statement-returns-in_ok-blocks-in-PutElement : goal.put_statement-returns-in_ok-blocks-in-PutElement
put_statement-returns-in_ok-blocks-in-PutElement t c =
    rw c.in-PutElement.is (rw (c.in_ok-blocks-in-PutElement.ensures, c.in_ok-row-in-PutElement.ensures.value) at c.put-in-PutElement.ensures)

pub put_statement-returns-in_ok-blocks-in-Clear : goal.put_statement-returns-in_ok-blocks-in-Clear
put_statement-returns-in_ok-blocks-in-Clear t c =
    rw c.in-Clear.is (rw (c.in_ok-blocks-in-Clear.ensures, c.in_ok-row-in-Clear.ensures.value, c.length.ensures) at c.put-in-Clear.ensures)

pub put_statement-returns-in_ok-put_all-in-WhileAny : goal.put_statement-returns-in_ok-put_all-in-WhileAny
put_statement-returns-in_ok-put_all-in-WhileAny t c =
    let vals = c.args.vals in
    let lens = c.args.lens.now in
    let e : codes vals lens c.args.stmt.now ≡ codes_all vals lens c.in-WhileAny.head ++ codes_all vals lens c.in-WhileAny.body
    = ap (codes vals lens) c.in-WhileAny.is ∙ codes-WhileAny vals lens c.in-WhileAny.head c.in-WhileAny.mask c.in-WhileAny.body in
    let first : map code_from c.put_all.new.list.items ≡ map code_from c.args.list.now.items ++ codes_all vals lens c.in-WhileAny.head
    = rw c.as_slice.ensures at c.in_ok-put_all-in-WhileAny.ensures in
    grind (arith, common_steps, e, first, rw c.as_slice-in-WhileAny.ensures at c.put_all-in-WhileAny.ensures)
