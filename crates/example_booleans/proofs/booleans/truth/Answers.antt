use Rattle.std.proofs.Common.{◌≡◌, ◌∙◌, ℤ, pos, refl, subst}
use Rattle.std.specs.Prelude.{◌⊎◌, ⊤}
use Rattle.streams.specs.Bytes.{bytes_input, bytes_reading}
use Rattle.streams.specs.Kind.{backtrack, memory}
use Rattle.stream_errors.specs.Form.{answer_by, marked_kind, plain}
use Rattle.winnow_expression_trees.specs.Items.{ReadsItems}
use Rattle.winnow_expression_trees.specs.Items.Laws.{items_exact, items_premises}
use Rattle.example_booleans.proofs.Failures.{fails_at_items, told_of_err}
use Rattle.example_booleans.specs.Booleans.{ByteItem, LacksOperand, infix_at, logic_value}
use Rattle.example_booleans.specs.Booleans.{not_value, operand_at, postfix_at, prefix_at}
use Rattle.example_booleans.specs.Booleans.Laws.{byte_items}
use Rattle.example_booleans.proofs.Values.{one_logic, one_not, some_logic, some_not}
use Rattle.example_booleans.proofs.booleans.truth.Goals as goal

pub returns-clause-reads : goal.returns-clause-reads
returns-clause-reads g c =
    let level : ℤ = c.infix-parser.result.level in
    let states : (⊤ × ⊤) × (⊤ × ⊤) = ((tt, tt), (tt, tt)) in
    let state : (⊤ × ⊤) × (⊤ × ⊤) × ℤ = ((tt, tt), (tt, tt), level) in
    let later : (⊤ × ⊤) × (⊤ × ⊤) × ℤ = ((tt, tt), (tt, tt), c.parse_next.new.self.level) in
    let zero : level ≡ pos 0 = c.infix-parser.ensures.level ∙ c.postfix.ensures.level
    ∙ c.prefix.ensures.level ∙ c.expression.ensures.level in
    subst (λ l. ReadsItems (ByteItem operand_at) (ByteItem prefix_at) (ByteItem postfix_at)
    (ByteItem infix_at) not_value not_value logic_value l (bytes_input c.args.input.now.now)
    (answer_by (λ e. marked_kind e.is_memory) c.parse_next.result)
    (bytes_input c.parse_next.new.input.now)) zero
    (items_exact bytes_reading plain backtrack (λ p n. refl) (ByteItem operand_at)
    (ByteItem prefix_at)
    (ByteItem postfix_at) (ByteItem infix_at) not_value not_value logic_value tt tt tt tt
    (byte_items operand_at) (byte_items prefix_at) (byte_items postfix_at) (byte_items infix_at)
    level (bytes_input c.args.input.now.now) _ _ states
    (c.expression_is_unambiguous.ensures.exact state
    (items_premises bytes_reading plain backtrack (λ p n. refl) (ByteItem operand_at)
    (ByteItem prefix_at)
    (ByteItem postfix_at) (ByteItem infix_at) not_value not_value logic_value tt tt tt tt
    (byte_items operand_at) (byte_items prefix_at) (byte_items postfix_at) (byte_items infix_at)
    one_not one_not one_logic)
    _ _ later _ c.parse_next.ensures.ran))

pub returns-clause-fails : goal.returns-clause-fails
returns-clause-fails g c =
    let level : ℤ = c.infix-parser.result.level in
    let states : (⊤ × ⊤) × (⊤ × ⊤) = ((tt, tt), (tt, tt)) in
    let state : (⊤ × ⊤) × (⊤ × ⊤) × ℤ = ((tt, tt), (tt, tt), level) in
    let later : (⊤ × ⊤) × (⊤ × ⊤) × ℤ = ((tt, tt), (tt, tt), c.parse_next.new.self.level) in
    told_of_err (λ e. marked_kind e.is_memory)
    (λ k. (k ≡ memory)
    ⊎ ((k ≡ backtrack) × LacksOperand c.args.input.now.now c.parse_next.new.input.now))
    c.parse_next.result
    (fails_at_items bytes_reading plain backtrack (λ p n. refl) (ByteItem operand_at)
    (ByteItem prefix_at)
    (ByteItem postfix_at) (ByteItem infix_at) not_value not_value logic_value
    (byte_items operand_at) (byte_items prefix_at) (byte_items postfix_at) (byte_items infix_at)
    some_not some_not
    some_logic level (bytes_input c.args.input.now.now) _ states _
    (c.expression_is_unambiguous.ensures.exact state
    (items_premises bytes_reading plain backtrack (λ p n. refl) (ByteItem operand_at)
    (ByteItem prefix_at)
    (ByteItem postfix_at) (ByteItem infix_at) not_value not_value logic_value tt tt tt tt
    (byte_items operand_at) (byte_items prefix_at) (byte_items postfix_at) (byte_items infix_at)
    one_not one_not one_logic)
    _ _ later _ c.parse_next.ensures.ran))
