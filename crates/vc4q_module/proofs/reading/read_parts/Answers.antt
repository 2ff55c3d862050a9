use Rattle.std.proofs.Common.{rules, ◌≡◌, ℕ, List, map, take, drop, length, ◌-◌, subst, sym, ap, ◌∙◌}
use Rattle.std.proofs.lemmas.List.{take_rest}
use Rattle.q_lane.specs.declared.kinds.Kind.{Kind}
use Rattle.vc4q_module.specs.ModuleBytes.{ModuleOf, IsModule, module_in, number_at, kind_of, words_in}
use Rattle.vc4q_module.proofs.reading.read_parts.Goals as goal

-- what stands at each place makes the module
parts_are : (bytes : List ℕ) (rows : ℕ) (kinds : List Kind) (words : List ℕ)
    → rows ≡ number_at 8 bytes → kinds ≡ map kind_of (take (number_at 16 bytes) (drop 20 bytes)) → words ≡ words_in (number_at 12 bytes) (drop 40 bytes)
    → (let m : ModuleOf = record { rows = rows; kinds = kinds; words = words } in m ≡ module_in bytes)
unfolding module_in
parts_are bytes rows kinds words a b c = λ i. record { rows = a i; kinds = b i; words = c i }

made : (c : goal.In_ok-read_words) → (let m : ModuleOf = record { rows = c.number_from.result; kinds = c.in_ok-read_kinds.field-0.items; words = c.in_ok-read_words.field-0.items } in m ≡ module_in c.args.bytes.now)
made c =
    let bytes = c.args.bytes.now in
    let count : c.number_from-count.result ≡ number_at 12 bytes = search rules in
    let words : c.in_ok-read_words.field-0.items ≡ words_in (number_at 12 bytes) (drop 40 bytes) =
    c.in_ok-read_words.ensures ∙ ap (λ (n : ℕ). words_in n (take (length bytes - 40) (drop 40 bytes))) count
    ∙ ap (words_in (number_at 12 bytes)) (take_rest bytes 40) in
    parts_are c.args.bytes.now c.number_from.result c.in_ok-read_kinds.field-0.items c.in_ok-read_words.field-0.items (search rules) (search rules) words

pub invariant_of-result : goal.invariant_of-result
invariant_of-result c = subst IsModule (sym (made c)) c.requires.limits

pub returns : goal.returns
returns c = made c
