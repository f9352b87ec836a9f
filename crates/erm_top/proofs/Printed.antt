-- What was put for a status, of what a command has to tell.
use Rattle.std.proofs.Common.{◌≡◌, ◌≢◌, ℕ, ◌⊎◌, List, Result, Ok, Err, refl, sym, ◌∙◌, inl, inr, arith}
use Rattle.erm_report.specs.declared.line.Line.TheVariants as line
use Rattle.erm_top.specs.Around.{Around, PrintsLine, PrintsText, PutsCut, PutsWhole}
use Rattle.erm_top.specs.Told.{PutsTold, stop_status}
use Rattle.erm_top.specs.declared.printing.Stop.{Stop}
use Rattle.erm_top.specs.declared.printing.Stop.TheVariants as stop

-- the same, of what is told around a command
abbrev pub PutsAround : Result (List ℕ) Stop → ℕ → Around → Type 0
PutsAround told status a = PutsTold told status a.written_before a.written_after a.sink_before a.sink_after

-- no stop has the status of a report, whole or cut
never_reported : (s : Stop) → stop_status s ≢ 0
never_reported stop.Memory e = omega (arith, e)
never_reported s e = omega (arith, e)

never_cut : (s : Stop) → stop_status s ≢ 5
never_cut stop.Memory e = omega (arith, e)
never_cut s e = omega (arith, e)

module _ (status : ℕ) (a : Around) where
  pub success : (told : Result (List ℕ) Stop) → PutsAround told status a → status ≡ 0 → (text : List ℕ) × (told ≡ Ok text) × PutsWhole text a
  success (Ok text) (inl put) e = (text, refl, record { put = put.1; sound = put.2 })
  success (Ok text) (inr cut) e = absurd (omega (arith, cut.0, e))
  success (Err s) put e = absurd (never_reported s (sym put.0 ∙ e))

  pub sink_fault : (told : Result (List ℕ) Stop) → PutsAround told status a → status ≡ 5 → (text : List ℕ) × (told ≡ Ok text) × PutsCut text a
  sink_fault (Ok text) (inl put) e = absurd (omega (arith, put.0, e))
  sink_fault (Ok text) (inr cut) e = (text, refl, record { put = cut.1; failed = cut.2 })
  sink_fault (Err s) put e = absurd (never_cut s (sym put.0 ∙ e))

  pub bad_line : (told : Result (List ℕ) Stop) → PutsAround told status a → status ≡ 3 → (text : List ℕ) × (told ≡ Err (stop.BadLine text)) × PrintsText text a
  bad_line (Ok text) (inl put) e = absurd (omega (arith, put.0, e))
  bad_line (Ok text) (inr cut) e = absurd (omega (arith, cut.0, e))
  bad_line (Err (stop.BadLine text)) put e = (text, refl, put.1)
  bad_line (Err s) put e = absurd (omega (arith, put.0, e))

  pub read_fault : (told : Result (List ℕ) Stop) → PutsAround told status a → status ≡ 4 → (told ≡ Err stop.ReadFault) × PrintsLine line.ReadFault a
  read_fault (Ok text) (inl put) e = absurd (omega (arith, put.0, e))
  read_fault (Ok text) (inr cut) e = absurd (omega (arith, cut.0, e))
  read_fault (Err stop.ReadFault) put e = (refl, put.1)
  read_fault (Err s) put e = absurd (omega (arith, put.0, e))

  pub disk_fault : (told : Result (List ℕ) Stop) → PutsAround told status a → status ≡ 6
      → ((told ≡ Err stop.DiskFault) × PrintsLine line.DiskFault a) ⊎ ((text : List ℕ) × (told ≡ Err (stop.Cut text)) × PrintsText text a)
  disk_fault (Ok text) (inl put) e = absurd (omega (arith, put.0, e))
  disk_fault (Ok text) (inr cut) e = absurd (omega (arith, cut.0, e))
  disk_fault (Err stop.DiskFault) put e = inl (refl, put.1)
  disk_fault (Err (stop.Cut text)) put e = inr (text, refl, put.1)
  disk_fault (Err s) put e = absurd (omega (arith, put.0, e))

  pub no_base : (told : Result (List ℕ) Stop) → PutsAround told status a → status ≡ 7 → (told ≡ Err stop.NoBase) × PrintsLine line.NoBase a
  no_base (Ok text) (inl put) e = absurd (omega (arith, put.0, e))
  no_base (Ok text) (inr cut) e = absurd (omega (arith, cut.0, e))
  no_base (Err stop.NoBase) put e = (refl, put.1)
  no_base (Err s) put e = absurd (omega (arith, put.0, e))

  pub no_memory : (told : Result (List ℕ) Stop) → PutsAround told status a → status ≡ 8 → (told ≡ Err stop.Memory) × PrintsLine line.NoMemory a
  no_memory (Ok text) (inl put) e = absurd (omega (arith, put.0, e))
  no_memory (Ok text) (inr cut) e = absurd (omega (arith, cut.0, e))
  no_memory (Err stop.Memory) put e = (refl, put.1)
  no_memory (Err s) put e = absurd (omega (arith, put.0, e))

  pub too_long : (told : Result (List ℕ) Stop) → PutsAround told status a → status ≡ 9 → (told ≡ Err stop.TooLong) × PrintsLine line.TooLong a
  too_long (Ok text) (inl put) e = absurd (omega (arith, put.0, e))
  too_long (Ok text) (inr cut) e = absurd (omega (arith, cut.0, e))
  too_long (Err stop.TooLong) put e = (refl, put.1)
  too_long (Err s) put e = absurd (omega (arith, put.0, e))

  pub at_end : (told : Result (List ℕ) Stop) → PutsAround told status a → status ≡ 10 → (text : List ℕ) × (told ≡ Err (stop.AtEnd text)) × PrintsText text a
  at_end (Ok text) (inl put) e = absurd (omega (arith, put.0, e))
  at_end (Ok text) (inr cut) e = absurd (omega (arith, cut.0, e))
  at_end (Err (stop.AtEnd text)) put e = (text, refl, put.1)
  at_end (Err s) put e = absurd (omega (arith, put.0, e))

  pub known : (told : Result (List ℕ) Stop) → PutsAround told status a
      → (status ≡ 0) ⊎ (status ≡ 3) ⊎ (status ≡ 4) ⊎ (status ≡ 5) ⊎ (status ≡ 6) ⊎ (status ≡ 7) ⊎ (status ≡ 8) ⊎ (status ≡ 9) ⊎ (status ≡ 10)
  known (Ok text) (inl put) = inl put.0
  known (Ok text) (inr cut) = inr (inr (inr (inl cut.0)))
  known (Err (stop.BadLine text)) put = inr (inl put.0)
  known (Err stop.ReadFault) put = inr (inr (inl put.0))
  known (Err stop.DiskFault) put = inr (inr (inr (inr (inl put.0))))
  known (Err (stop.Cut text)) put = inr (inr (inr (inr (inl put.0))))
  known (Err stop.NoBase) put = inr (inr (inr (inr (inr (inl put.0)))))
  known (Err stop.Memory) put = inr (inr (inr (inr (inr (inr (inl put.0))))))
  known (Err stop.TooLong) put = inr (inr (inr (inr (inr (inr (inr (inl put.0)))))))
  known (Err (stop.AtEnd text)) put = inr (inr (inr (inr (inr (inr (inr (inr put.0)))))))

-- the statuses that are left, where some don't come
abbrev pub AnyStatus : ℕ → Type 0
AnyStatus status = (status ≡ 0) ⊎ (status ≡ 3) ⊎ (status ≡ 4) ⊎ (status ≡ 5) ⊎ (status ≡ 6) ⊎ (status ≡ 7) ⊎ (status ≡ 8) ⊎ (status ≡ 9) ⊎ (status ≡ 10)

module _ (status : ℕ) where
  pub of_disk : AnyStatus status → status ≢ 3 → status ≢ 4 → status ≢ 9
      → (status ≡ 0) ⊎ (status ≡ 5) ⊎ (status ≡ 6) ⊎ (status ≡ 7) ⊎ (status ≡ 8) ⊎ (status ≡ 10)
  of_disk (inl e) three four nine = inl e
  of_disk (inr (inl e)) three four nine = absurd (three e)
  of_disk (inr (inr (inl e))) three four nine = absurd (four e)
  of_disk (inr (inr (inr (inl e)))) three four nine = inr (inl e)
  of_disk (inr (inr (inr (inr (inl e))))) three four nine = inr (inr (inl e))
  of_disk (inr (inr (inr (inr (inr (inl e)))))) three four nine = inr (inr (inr (inl e)))
  of_disk (inr (inr (inr (inr (inr (inr (inl e))))))) three four nine = inr (inr (inr (inr (inl e))))
  of_disk (inr (inr (inr (inr (inr (inr (inr (inl e)))))))) three four nine = absurd (nine e)
  of_disk (inr (inr (inr (inr (inr (inr (inr (inr e)))))))) three four nine = inr (inr (inr (inr (inr e))))

  -- and where nothing fails
  pub of_sound : (status ≡ 0) ⊎ (status ≡ 5) ⊎ (status ≡ 6) ⊎ (status ≡ 7) ⊎ (status ≡ 8) ⊎ (status ≡ 10) → status ≢ 5 → status ≢ 6
      → (status ≡ 0) ⊎ (status ≡ 7) ⊎ (status ≡ 8) ⊎ (status ≡ 10)
  of_sound (inl e) five six = inl e
  of_sound (inr (inl e)) five six = absurd (five e)
  of_sound (inr (inr (inl e))) five six = absurd (six e)
  of_sound (inr (inr (inr more))) five six = inr more
