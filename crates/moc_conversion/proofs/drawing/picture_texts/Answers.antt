use Rattle.std.proofs.Common.{◌∙◌, sym}
use Rattle.moc_conversion.proofs.Pictures.{first_text_without_semicolon, second_text_without_semicolon, split_first, split_none, split_second}
use Rattle.moc_conversion.proofs.drawing.picture_texts.Goals as goal

pub returns-in_default-clause-first : goal.returns-in_default-clause-first
returns-in_default-clause-first c = first_text_without_semicolon c.args.text.now c.in_default.ensures

pub returns-in_default-clause-second : goal.returns-in_default-clause-second
returns-in_default-clause-second c = second_text_without_semicolon c.args.text.now c.in_default.ensures

pub returns-then-is_blank-clause-first : goal.returns-then-is_blank-clause-first
returns-then-is_blank-clause-first c =
    split_first c.args.text.now c.in-Some.first.now c.in-Some.following.now c.in-Some.ensures.0 c.in-Some.ensures.1

pub returns-then-is_blank-clause-second : goal.returns-then-is_blank-clause-second
returns-then-is_blank-clause-second c =
    split_none c.args.text.now c.in-Some.first.now c.in-Some.following.now c.in-Some.ensures.0 c.in-Some.ensures.1
    (sym c.is_blank.ensures ∙ c.if-is_blank.true)

pub returns-clause-first : goal.returns-clause-first
returns-clause-first c =
    split_first c.args.text.now c.in-Some.first.now c.in-Some.following.now c.in-Some.ensures.0 c.in-Some.ensures.1

pub returns-clause-second : goal.returns-clause-second
returns-clause-second c =
    split_second c.args.text.now c.in-Some.first.now c.in-Some.following.now c.in-Some.ensures.0 c.in-Some.ensures.1
    (sym c.is_blank.ensures ∙ c.if-is_blank.false)
