use Rattle.irr_site.proofs.answer.site.Goals as goal
