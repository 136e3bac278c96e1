use Rattle.std.proofs.Common.{None, arith, subst}
use Rattle.desk_coding.specs.Codings.{whole}
use Rattle.desk_coding.specs.Rows.{kept}
use Rattle.desk_coding.specs.Taking.{Misses}
use Rattle.desk_coding.proofs.Rows.{exact_kept}
use Rattle.desk_coding.proofs.Wholes.{takes_whole}
use Rattle.desk_coding.proofs.coding.take_kept.Goals as goal

pub returns-in-Ok : goal.returns-in-Ok
returns-in-Ok c = record { taken = takes_whole kept exact_kept c.args.bytes.now _ (λ i. omega (arith, c.type_inv.bytes i)) c.in-Ok.ensures }

pub returns-in-Err-NoCoding : goal.returns-in-Err-NoCoding
returns-in-Err-NoCoding c =
    record {
      taken = takes_whole kept exact_kept c.args.bytes.now None (λ i. omega (arith, c.type_inv.bytes i))
          (subst (λ stop. Misses stop (whole kept c.args.bytes.now)) c.in-Err-NoCoding.field-0-is c.in-Err-NoCoding.ensures);
    }
