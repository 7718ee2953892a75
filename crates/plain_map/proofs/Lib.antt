mod Nothing
