-- Document 000's formulas of pay, its steps (8) to (10), as it prints them: in percent, dollars and tons, nothing rounded.
use Rattle.std.specs.Prelude.{pos}
use Rattle.laws.specs.Ratio.{Ratio, ratio, plus, times}

-- (8) PF = 53 + 0.5 PWL
abbrev pub published_factor : Ratio → Ratio
published_factor pwl = plus (ratio (pos 53) 1) (times (ratio (pos 5) 10) pwl)

-- (9) CPF = (0.3 PF of VMA + 0.3 PF of voids + 0.4 PF of density)/100
abbrev pub published_composite : Ratio → Ratio → Ratio → Ratio
published_composite vma voids density =
    times
    (plus
    (plus (times (ratio (pos 3) 10) (published_factor vma)) (times (ratio (pos 3) 10) (published_factor voids)))
    (times (ratio (pos 4) 10) (published_factor density)))
    (ratio (pos 1) 100)

-- (10) final pay = price × quantity × CPF
abbrev pub published_pay : Ratio → Ratio → Ratio → Ratio
published_pay price quantity cpf = times (times price quantity) cpf
