use Rattle.lp_integer_dict.proofs.bounds.is_small_after.Goals as goal

pub returns : goal.returns
returns c = λ told. (c.top_after-top.result, c.top_after-top.ensures, c.fits.ensures.0 told)
