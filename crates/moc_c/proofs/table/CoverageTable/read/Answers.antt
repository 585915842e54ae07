use Rattle.std.proofs.Common.{◌≡◌, inl, inr, refl, sym, ◌∙◌}
use Rattle.moc_forms.specs.Formats.{out_of_memory_in}
use Rattle.moc_forms.specs.declared.format.Format.{Format}
use Rattle.moc_forms.specs.declared.format.Format.TheVariants.{Ascii, Json, Uniq}
use Rattle.moc_c.specs.CallResults.{memory, numbers_result, result_of_format}
use Rattle.moc_c.proofs.table.CoverageTable.read.Goals as goal

-- an allocation failure has the same code in each format
result_of_out_of_memory : (format : Format) → result_of_format (out_of_memory_in format) ≡ memory
result_of_out_of_memory Ascii = refl
result_of_out_of_memory Json = refl
result_of_out_of_memory Uniq = refl

pub returns-in-Ok-put : goal.returns-in-Ok-put
returns-in-Ok-put c =
    inl (
      c.in-Ok.set,
      c.in-Ok.deepest,
      c.in-Ok.ensures.represents,
      c.in-Ok-put.ensures.inserted,
      c.numbers.ensures ∙ (λ i. numbers_result (c.in-Ok-put.ensures.id i) (c.number_of.ensures i)),
    )

pub returns-in-Err-put : goal.returns-in-Err-put
returns-in-Err-put c =
    inr (
      out_of_memory_in c.args.format,
      inl refl,
      c.in-Err-put.ensures.unchanged,
      c.of.ensures ∙ sym (result_of_out_of_memory c.args.format),
    )
