use Rattle.std.proofs.Common.{rules}
use Rattle.gms_list.proofs.Echoes.{after_return, after_feed, after_nothing, after_one, after_other, after_lone}
use Rattle.gms_list.proofs.echo.text_after_end.Goals as goal
use Rattle.gms_list.proofs.echo.text_after_end.Goals.{then-text-lt2+in-10-1, else-text-lt2+in-10-1, in_default-via-then-text-lt1, in_default-via-else-text-lt1+then-text-lt2+in_default-1, in_default-via-else-text-lt1+else-text-lt2+in-13+in_default-1, in_default-via-else-text-lt1+else-text-lt2+in_default-1}

pub returns-in-13 : goal.returns-in-13
returns-in-13 c = after_return c.args.text.now (search rules) (search rules) (search rules)

pub returns-in-10 : goal.returns-in-10
returns-in-10 c = elim c.in-10-1.branch [ then-text-lt2+in-10-1 w ↦ after_feed c.args.text.now (search rules) (search rules) | else-text-lt2+in-10-1 w ↦ after_feed c.args.text.now (search rules) (search rules) ]

pub returns-in_default : goal.returns-in_default
returns-in_default c =
    elim c.in_default.branch [
      | in_default-via-then-text-lt1 w ↦ after_nothing c.args.text.now (search rules)
      | in_default-via-else-text-lt1+then-text-lt2+in_default-1 w ↦ after_one c.args.text.now (search rules) (search rules)
      | in_default-via-else-text-lt1+else-text-lt2+in-13+in_default-1 w ↦ after_lone c.args.text.now (search rules) (search rules)
      | in_default-via-else-text-lt1+else-text-lt2+in_default-1 w ↦ after_other c.args.text.now (search rules) (search rules)
    ]
